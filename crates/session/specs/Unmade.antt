-- A book that was not made, as trouble of the line with its types.
use Rattle.book.specs.declared.unmade.Unmade.{Unmade}
use Rattle.book.specs.declared.unmade.Unmade.TheVariants as unmade
use Rattle.session.specs.declared.trouble.Trouble.{Trouble}
use Rattle.session.specs.declared.trouble.Trouble.TheVariants.{Refused, Memory}

abbrev pub unmade_trouble : Unmade → Trouble
unmade_trouble (unmade.Refused e) = Refused e
unmade_trouble unmade.Memory = Memory
