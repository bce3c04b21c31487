mod Durables
mod Openings
mod StoreStarts
