-- The location that a word writes.
use Rattle.std.specs.Prelude.{ℕ, ◌-◌, ◌^◌, cond, List, Some, None, codes, Option}
use Rattle.std.specs.Str.{bytes_eq}
use Rattle.ir.specs.declared.location.Location.{Location}
use Rattle.ir.specs.declared.location.Location.TheVariants.{Unknown, SrcPos}
use Rattle.text.specs.Marks.{before, after}
use Rattle.text.specs.Numbers.{number_of}

abbrev pub position : Option ℕ → Option ℕ → Option Location
position None column = None
position (Some line) None = None
position (Some line) (Some column) = Some (SrcPos (record { line = line; column = column }))

-- `-`, or a line, `:` and a column
abbrev pub location_of : List ℕ → Option Location
location_of word =
    cond (bytes_eq word (codes "-")) (Some Unknown)
    (position (number_of (before 58 word) (2 ^ 32 - 1)) (number_of (after 58 word) (2 ^ 32 - 1)))
