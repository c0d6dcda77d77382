-- The first node: each pattern stands for its opened binder.
use Rattle.std.proofs.Common.{◌≡◌, ℕ, zero, suc, ◌+◌, List, [], ◌∷◌, length, refl, ◌∙◌, ap, subst, arith}
use Rattle.qtt_syntax.specs.Tree.{Shape, shapes}
use Rattle.qtt_term.specs.Term.{Term, Terms, size}
use Rattle.qtt_term.specs.Substitution.{subs, push, above, closed}
use Rattle.qtt_term.specs.Signature.{Tele}
use Rattle.qtt_term.specs.Judgement.{Ctx, ext}
use Rattle.qtt_confluence.proofs.Families.{newest-are}
use Rattle.qtt_term.specs.Entries.{Entries}
use Rattle.qtt_split.specs.Seen.{oldest_first}
use Rattle.qtt_split.specs.Node.{Clause}
use Rattle.qtt_split.specs.Plan.{start_columns, start_rows, start_sights, patterns_at}
use Rattle.qtt_split.specs.Laws.{all_patterns, AllWide}
use Rattle.qtt_clause_laws.proofs.Columns.{Reads}
use Rattle.qtt_clause_laws.proofs.Shown.{Shown, AllShown}
use Rattle.qtt_clause_laws.proofs.Deciding.{Left}

pub length-ext : (Γ : Ctx) (Θ : Tele) → length (ext Γ Θ) ≡ length Γ + length Θ
length-ext Γ [] = omega arith
length-ext Γ (b ∷ Θ) = let e : length (ext (b ∷ Γ) Θ) ≡ suc (length Γ) + length Θ = length-ext (b ∷ Γ) Θ in omega arith

pub start-columns : (K : Entries) (Γ : Ctx) (ps : List Shape) (n : ℕ) → length ps ≡ n →
    Reads K (shapes ps) (above 0 n) (start_columns Γ ps (oldest_first n))
start-columns K Γ [] zero e = Reads.none
start-columns K Γ [] (suc n) e = absurd (cc e)
start-columns K Γ (p ∷ ps) zero e = absurd (cc e)
start-columns K Γ (p ∷ ps) (suc n) e = Reads.beside (start-columns K Γ ps n (cc e))

module _ (K : Entries) (all : List Clause) (vs : Terms) (Γ : Ctx) where
  pub start-left : (m : ℕ) (cs : List Clause) → AllWide (length Γ) cs →
      ((j : ℕ) → patterns_at cs j ≡ patterns_at all (m + j)) →
      Left K all (above 0 (length Γ)) vs (start_rows Γ m cs) m (all_patterns cs)
  start-left m [] w h = Left.none
  start-left m (c ∷ cs) w h =
      Left.still refl (h 0 ∙ ap (patterns_at all) (omega arith)) (start-columns K Γ c.patterns (length Γ) w.0)
      (start-left (suc m) cs w.1 (λ j. h (suc j) ∙ ap (patterns_at all) (omega arith)))

start-shown : (K : Entries) (R : Term → Term → Type 0) (π : ℕ → Term) (n : ℕ) →
    AllShown K R π (start_sights (oldest_first n)) (above 0 n) (subs [] π (above 0 n))
start-shown K R π zero = AllShown.none
start-shown K R π (suc n) = AllShown.more (Shown.live refl) (start-shown K R π n)

pub arguments-shown : (K : Entries) (R : Term → Term → Type 0) (vs : Terms) (n : ℕ) → size vs ≡ n →
    AllShown K R (push vs closed) (start_sights (oldest_first n)) (above 0 n) vs
arguments-shown K R vs n z = subst (AllShown K R (push vs closed) (start_sights (oldest_first n)) (above 0 n))
    (newest-are vs closed n z) (start-shown K R (push vs closed) n)
