-- Objects whose fields hold no other objects.
use Rattle.std.specs.Prelude.{ℕ, List, [], ◌∷◌, decimal}
use Rattle.std.specs.Borrow.{Bor}
use Rattle.json.specs.Json.{Json, boolean, null, number, string}
use Rattle.zk_json.specs.Json.{Fields, id_of}
use Rattle.zk_json.specs.declared.objects.Value.{Value}
use Rattle.zk_json.specs.declared.objects.Value.TheVariants as values

abbrev pub value_of : Value → Json
value_of values.Null = null
value_of (values.Text text) = string text.now
value_of (values.Count count) = number (decimal count)
value_of (values.Id id) = id_of id
value_of (values.Flag flag) = boolean flag

-- a name with its value
abbrev pub field_of : Bor (List ℕ) × Value → List ℕ × Json
field_of field = (field.0.now, value_of field.1)

-- ---- calls within

abbrev pub named : List ℕ → Value → Fields
named name value = (name, value_of value) ∷ []
