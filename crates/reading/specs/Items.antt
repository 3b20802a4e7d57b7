-- What one word says.
use Rattle.std.specs.Prelude.{ℕ, ◌-◌, ◌^◌, cond, Some, None, codes, Option}
use Rattle.std.specs.Str.{bytes_eq}
use Rattle.std.specs.Option.{option_map}
use Rattle.ir.specs.declared.location.Location.{Location}
use Rattle.text.specs.Locations.{location_of}
use Rattle.text.specs.Numbers.{number_of}
use Rattle.reading.specs.Grammar.{Text}

abbrev pub handle_of : Text → Option ℕ
handle_of w = number_of w (2 ^ 64 - 1)

abbrev pub id_of : Text → Option ℕ
id_of w = number_of w 65535

abbrev pub count_of : Text → Option ℕ
count_of w = number_of w (2 ^ 64 - 1)

abbrev pub in_of : Text → Option (Unit {0})
in_of w = cond (bytes_eq w (codes "in")) (Some tt) None

-- a location that is said
abbrev pub at_of : Text → Option (Option Location)
at_of w = option_map Some (location_of w)
