-- What is inferred is so.
use Rattle.std.proofs.Common.{◌≡◌, List, [], ◌∷◌, length, Some, None, Option, refl, subst}
use mathlib.Core.Path.{fun_ext}
use Rattle.qtt_usage.specs.declared.mult.Mult.{Mult}
use Rattle.qtt_usage.specs.Uses.{Key, Use}
use Rattle.qtt_usage.specs.Usage.{use_of}
use Rattle.qtt_term.specs.Term.{Form, Term, Terms, var, node, ε, ◌▸◌}
use Rattle.qtt_term.specs.Signature.{Constructor, Family, Env, family_of}
use Rattle.qtt_term.specs.Judgement.{Part, Ctx, Typed}
use Rattle.qtt_term.specs.Accepted.{Accepts}
use Rattle.qtt_term.specs.Environment.{WellFormed, ConstructorsFormed, FamilyFormed, NoTape}
use Rattle.qtt_term.specs.Ask.{Ending, Ends}
use Rattle.qtt_term.specs.Infer.{Inferred, infer}
use Rattle.qtt_term.specs.Environment.{ResultsAre, ResultsCounted}
use Rattle.qtt_core_check.specs.WithUses.{WithUses}
use Rattle.qtt_core_check.specs.Laws.{InferIsSound}
use Rattle.qtt_core_check.proofs.Parts.{never}
use Rattle.qtt_core_check.proofs.Lists.{Counts}
use Rattle.qtt_core_check.proofs.Derived.{Derived, Gives}
use Rattle.qtt_core_check.proofs.Forms.{variable-gives, sort-gives, pi-gives, lam-gives, app-gives, delete-gives, trap-gives, tape-gives}
use Rattle.qtt_core_check.proofs.Arguments.{AllGive, fam-gives, con-gives, named-gives}
use Rattle.qtt_core_check.proofs.Branching.{case-gives}
use Rattle.qtt_core_check.proofs.Acceptance.{typed-of}

module _ (E : Env) (counted : ResultsCounted E) where
  form-gives : (F : Form) (ts : Terms) → AllGive E ts → Gives E (node F ts)
  form-gives (Form.sort l) ε g = sort-gives l
  form-gives (Form.pi q) (A ▸ B ▸ ε) g = pi-gives q A B g.0 g.1.0
  form-gives (Form.lam q) (A ▸ b ▸ ε) g = lam-gives q A b g.0 g.1.0
  form-gives (Form.app q) (f ▸ a ▸ ε) g = app-gives q f a g.0 g.1.0
  form-gives (Form.fam f) ts g = fam-gives f ts g
  form-gives (Form.con f n k) ts g = con-gives f n k ts g
  form-gives (Form.case q f k m ns) ts g = case-gives counted q f k m ns ts g
  form-gives (Form.delete q) (A ▸ s ▸ P ▸ b ▸ e ▸ ε) g =
      delete-gives q A s P b e g.0 g.1.0 g.1.1.0 g.1.1.1.0 g.1.1.1.1.0
  form-gives (Form.named n) ts g = named-gives n ts g
  form-gives Form.trap (A ▸ ε) g = trap-gives A g.0
  form-gives (Form.tape n) ε g = tape-gives n
  form-gives _ ts g = λ p Γ j x. absurd (never x)

  mutual
    gives : (t : Term) → Gives E t
    gives (var i) = variable-gives i
    gives (node F ts) = form-gives F ts (all-give ts)

    all-give : (ts : Terms) → AllGive E ts
    all-give ε = tt
    all-give (t ▸ ts) = (gives t, all-give ts)

  pub derived : (p : Part) (Γ : Ctx) (t : Term) (j : Inferred) → Ends E (infer E p Γ t) (Ending.ok j) →
      Derived E p Γ t j.type j.uses
  derived p Γ t j x = gives t p Γ j x

  used-so : (p : Part) (Γ : Ctx) (t : Term) (j : Inferred) → NoTape t → Derived E p Γ t j.type j.uses →
      Typed E p Γ t j.type (use_of j.uses)
  used-so p Γ t j n d = subst (Typed E p Γ t j.type) (fun_ext λ x. d.counts x (counted-at x)) (typed-of d.accepted)
    where
      counted-at : (x : Key) → Counts (NoTape t) x
      counted-at (Key.v i) = tt
      counted-at (Key.h i) = n

with-uses : {E : Env} {p : Part} {Γ : Ctx} {t A : Term} {us : List Mult} (J : Use → Type 0) →
    (d : Derived E p Γ t A us) → J d.use_of_term → WithUses J Γ t us
with-uses J d h = record {
  use_of_term = d.use_of_term;
  holds = h;
  variables = λ i. d.counts (Key.v i) tt;
  tapes = λ n i. d.counts (Key.h i) n;
  counted = d.counted;
}

pub sound : (E : Env) → ResultsCounted E → InferIsSound E
sound E counted = record {
  accepts_uses = λ p Γ t j x. let d = derived E counted p Γ t j x in with-uses (Accepts E p Γ t j.type) d d.accepted;
  has_uses = λ p Γ t j x. let d = derived E counted p Γ t j x in with-uses (Typed E p Γ t j.type) d
      (typed-of d.accepted);
  typed = λ p Γ t j n x. used-so E counted p Γ t j n (derived E counted p Γ t j x);
}

-- ---- in a well-formed environment
results-are : (E : Env) (F : Family) (cs : List Constructor) → ConstructorsFormed E F cs →
    ResultsAre (length F.indices) cs
results-are E F [] h = tt
results-are E F (c ∷ cs) (ConstructorsFormed.more h hs) = (h.one_each, results-are E F cs hs)

pub results-counted : (E : Env) → WellFormed E → ResultsCounted E
results-counted E w f = go (E.family f) (λ F e. w.families f F e)
  where
    go : (o : Option Family) → ((F : Family) → o ≡ Some F → FamilyFormed E f F) →
        ResultsAre (length (family_of o).indices) (family_of o).constructors
    go None h = tt
    go (Some F) h = results-are E F F.constructors (h F refl).constructors
