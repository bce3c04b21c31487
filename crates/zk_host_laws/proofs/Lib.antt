mod News
mod Showing
mod Orders
mod Syncs
