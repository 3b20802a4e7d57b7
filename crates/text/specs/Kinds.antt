-- How kinds are written.
use Rattle.std.specs.Prelude.{ℕ, cond, List, Some, None, codes, Option}
use Rattle.std.specs.Str.{bytes_eq}
use Rattle.std.specs.Option.{option_map}
use Rattle.ir.specs.Kinds.{kind_number as byte_of}
use Rattle.ir.specs.declared.kind.Kind.{Kind}
use Rattle.ir.specs.declared.kind.Kind.TheVariants.{Yield, Br, CondBr, If, Loop, Switch}
use Rattle.text.specs.Numbers.{number_of}
use Rattle.text.specs.declared.kinds.KindWord.{KindWord}
use Rattle.text.specs.declared.kinds.KindWord.TheVariants.{Plain, Named, Number}

abbrev pub kind_named : List ℕ → Option Kind
kind_named word =
    cond (bytes_eq word (codes "yield")) (Some Yield)
    (cond (bytes_eq word (codes "br")) (Some Br)
    (cond (bytes_eq word (codes "cond_br")) (Some CondBr)
    (cond (bytes_eq word (codes "if")) (Some If)
    (cond (bytes_eq word (codes "loop")) (Some Loop)
    (cond (bytes_eq word (codes "switch")) (Some Switch) None)))))

-- plain, a name, or else a number up to 255
abbrev pub kind_of : List ℕ → Option KindWord
kind_of word =
    cond (bytes_eq word (codes "plain")) (Some Plain)
    (elim (kind_named word) [ Some k ↦ Some (Named k) | None ↦ option_map Number (number_of word 255) ])

abbrev pub kind_number : KindWord → ℕ
kind_number Plain = 0
kind_number (Named k) = byte_of k
kind_number (Number n) = n
