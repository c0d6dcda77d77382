-- What the writers add to a text.
use Rattle.std.specs.Prelude.{◌≡◌, ℕ, ◌+◌, List, [], ◌++◌, Bool, if◌then◌else◌, map, Vec}
use Rattle.std.specs.Global.{Global}
use Rattle.qtt_base.specs.declared.place.GlobalId.{GlobalId}
use Rattle.qtt_term.specs.Term.{Term}
use Rattle.qtt_term.specs.Entries.{Entries}
use Rattle.qtt_core_print.specs.Printing.{behind_blanks, in_braces, branch_texts, text}

-- behind the old bytes stand these
abbrev pub Adds : Vec ℕ Global → Vec ℕ Global → List ℕ → Type 0
Adds old new bytes = new.items ≡ old.items ++ bytes

abbrev pub where_needed : Bool → List ℕ → List ℕ
where_needed b bytes = if b then bytes else []

-- terms behind n binders, each behind a blank
unfoldable pub arguments_text : Entries → ℕ → List Term → List ℕ
arguments_text N n ts = behind_blanks (map (text N n) ts)

unfoldable pub braced_text : Entries → ℕ → List Term → List ℕ
braced_text N n ts = behind_blanks (map in_braces (map (text N n) ts))

-- branches with the numbers of their binders, for the constructors from place c on
unfoldable pub branches_text : Entries → ℕ → GlobalId → ℕ → List (ℕ × Term) → List ℕ
branches_text N n f c bs = branch_texts N n f c (map (λ b. b.0) bs) (map (λ b. text N (b.0 + n) b.1) bs)
