-- Laws of first matches.
use Rattle.std.specs.Prelude.{◌≡◌, ◌↔◌, ℕ, List, Some, None}
use Rattle.qtt_syntax.specs.Tree.{Shape}
use Rattle.qtt_term.specs.Items.{FamilyEntry}
use Rattle.qtt_term.specs.Term.{Terms}
use Rattle.qtt_match.specs.Match.{NoneFits, IsFirstMatch, first_match}

-- the test is its relation
pub record FirstMatchIsLeast : Type 0 where
  pub none : (Fs : List FamilyEntry) (cs : List (List Shape)) (ts : Terms) →
      (first_match Fs cs ts ≡ None) ↔ NoneFits Fs cs ts
  pub some : (Fs : List FamilyEntry) (cs : List (List Shape)) (ts : Terms) (i : ℕ) →
      (first_match Fs cs ts ≡ Some i) ↔ IsFirstMatch Fs cs ts i
