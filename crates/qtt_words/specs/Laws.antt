-- The crate `clap` reads the command line as it is defined.
use Rattle.std.specs.Prelude.{◌≡◌, List, map, Option, String, string_bytes}
use Rattle.std.specs.declared.alloc.Global.{Global}
use Rattle.clap.specs.Walk.{is_empty}
use Rattle.clap.specs.Faults.{fault_of}
use Rattle.qtt_words.specs.Sorting.{Word, sorted, is_line}
use Rattle.qtt_words.specs.Asked.{◌>>=◌, asked_of, asked_in}
use Rattle.qtt_words.specs.Clap.{qtt_app, sorted_by_clap}

-- it finds no fault exactly in the lines
abbrev pub TakesLines : Type 0
TakesLines = (words : List (String Global))
    → is_empty (fault_of qtt_app (map string_bytes words)) ≡ is_line (sorted (map string_bytes words))

-- what its matches ask for is what the words ask for
abbrev pub AsksAlike : Type 0
AsksAlike = (name_of : Word → Option Word) (words : List (String Global))
    → (sorted_by_clap (map string_bytes words) >>= asked_of name_of) ≡ asked_in name_of (map string_bytes words)
