-- The rule of matches by its parts: one branch, the branches in order, the scrutinee.
use Rattle.std.specs.Prelude.{ℕ, Bool, true, ◌&&◌, ◌||◌, eqb, List, [], ◌∷◌, length, drop, Option}
use Rattle.qtt_usage.specs.declared.mult.Mult.{Mult}
use Rattle.qtt_usage.specs.Usage.{usage_sum, usage_scale}
use Rattle.qtt_term.specs.declared.rule.Rule.TheVariants as rule
use Rattle.qtt_term.specs.Term.{Term, var, ε, ◌▸◌, skip, ◌+++◌}
use Rattle.qtt_term.specs.Substitution.{sub, push}
use Rattle.qtt_term.specs.Signature.{Tele, ConSig, FamSig, Env, fam_sig}
use Rattle.qtt_term.specs.Question.{same_counts}
use Rattle.qtt_term.specs.Judgement.{Ctx, Part, ext, sub_binds, scale, branch_type}
use Rattle.qtt_term.specs.Ask.{Ask, ◌>>=◌}
use Rattle.qtt_term.specs.Items.{family}
use Rattle.qtt_term.specs.View.{term}
use Rattle.qtt_term.specs.Accepted.{is_dead}
use Rattle.qtt_term.specs.Infer.{at, Asks, Inferred, inferred, agree, family_of, unbound, with_branch, joined_use, field_counts, family_wants, binders_fit, mults_onto, CaseOf, infer}
use Rattle.qtt_core_check.specs.declared.matching.Matching.{Matching}
use Rattle.qtt_term.specs.Telescopes.{filled}

-- ---- what the code's matches stand for
abbrev pub case_of : Matching → CaseOf
case_of m = record { mult = m.mult; id = m.id; family = fam_sig m.id (family m.family.now) }

abbrev pub params_of : Matching → ℕ → Term
params_of m = filled m.params.now

abbrev pub motive_of : Matching → Term
motive_of m = term m.motive.now

-- as many parameters, binders of the motive and branches with fields as the family's
abbrev pub shaped : FamSig → ℕ → ℕ → List ℕ → Bool
shaped S k m ns = eqb k (length S.params) && (eqb m (length S.motive) && same_counts ns (field_counts S.constructors))

-- ---- parts
-- whether the uses of the newest binders fit, and the uses of the others
abbrev pub fit_newest : Tele → List Mult → Bool × List Mult
fit_newest Θ us = (binders_fit (mults_onto [] Θ) us, drop (length Θ) us)

-- what binders are used for fits, in the run part and where the component is not dead
abbrev pub fits_within : Part → Term → Bool → Bool
fits_within Part.erased b fit = true
fits_within Part.run b fit = is_dead b || fit

-- a branch: the uses of what is older than its fields
abbrev pub branch_asks : Env → Part → Ctx → CaseOf → (ℕ → Term) → Term → ConSig → Term → Asks (List Mult)
branch_asks E p Γ c σ P d b = do
  j ← infer E p (ext Γ (sub_binds σ (scale c.mult d.fields))) b
  same ← agree (ext Γ (sub_binds σ (scale c.mult d.fields))) j.type (branch_type σ d P) (at rule.Case 4)
  unbound p (sub_binds σ (scale c.mult d.fields)) b j.uses (at rule.Case 5)

-- branches in order, with the join of those before
abbrev pub branches_ask : Env → Part → Ctx → CaseOf → (ℕ → Term) → Term → List ConSig → List Term →
    Option (List Mult) → Asks (Option (List Mult))
branches_ask E p Γ c σ P (d ∷ ds) (b ∷ bs) joined = do
  u ← branch_asks E p Γ c σ P d b
  branches_ask E p Γ c σ P ds bs (with_branch b u joined)
branches_ask E p Γ c σ P _ _ joined = Ask.done joined

-- what is asked after the scrutinee is judged, and the result
abbrev pub scrutinee_asks : Ctx → CaseOf → (ℕ → Term) → Term → Term → Option (List Mult) → Inferred → Asks Inferred
scrutinee_asks Γ c σ P s joined j = do
  xs ← family_of Γ c.id (length (family_wants c.family)) j.type (at rule.Case 6)
  same ← agree Γ j.type (sub (push (skip (length c.family.params) xs) σ) c.family.self) (at rule.Case 6)
  Ask.done (inferred (sub (push (skip (length c.family.params) xs +++ (s ▸ ε)) var) P)
      (usage_sum (usage_scale c.mult j.uses) (joined_use (length Γ) joined)))
