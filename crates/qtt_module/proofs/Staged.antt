-- A constructor is its fields, and then its results.
use Rattle.std.proofs.Common.{◌≡◌, ℕ, List, length, sym, ap, ◌∙◌}
use Rattle.qtt_base.specs.declared.place.GlobalId.{GlobalId}
use Rattle.qtt_base.specs.declared.place.Span.{Span}
use Rattle.qtt_syntax.specs.Tree.{Tree}
use Rattle.qtt_syntax.specs.Tree.Con.{con}
use Rattle.qtt_term.specs.Term.{Terms}
use Rattle.qtt_term.specs.Signature.{Tele}
use Rattle.qtt_term.specs.Judgement.{Part}
use Rattle.qtt_term.specs.Ask.{Ask, ◌>>=◌}
use Rattle.qtt_term.specs.Items.{ConstructorEntry}
use Rattle.qtt_term.specs.Entries.{Entries}
use Rattle.qtt_term.specs.Scope.{depth}
use Rattle.qtt_term.specs.declared.rule.Rule.TheVariants as rule
use Rattle.qtt_core_check.proofs.Continuing.{bind-assoc, bind-along}
use Rattle.qtt_rules.specs.Refusal.{Cause, at}
use Rattle.qtt_rules.specs.Asks.{Asks, found}
use Rattle.qtt_rules.specs.Judged.{Mode}
use Rattle.qtt_bidi.specs.Elaboration.{place, judge}
use Rattle.qtt_module.specs.Families.{Head, Opened, pieces, end_of, labels, fields, as_results, item_behind, qualified, constructor}
use Rattle.qtt_module.specs.FamilyParts.{results}

-- a constructor from its fields and its results
abbrev pub entry : GlobalId → List ℕ → List (List ℕ) → Tele → Terms → ConstructorEntry
entry i x ls Θ us = record { id = i; name = x; labels = ls; constructor = record { fields = Θ; results = us } }

pub entry-same : {i j : GlobalId} {x y : List ℕ} {ls ms : List (List ℕ)} {Θ Δ : Tele} {us : Terms} → i ≡ j → x ≡ y →
    ls ≡ ms → Θ ≡ Δ → entry i x ls Θ us ≡ entry j y ms Δ us
entry-same {i} {j} {x} {y} {ls} {ms} {Θ} {Δ} {us} a b c d =
    ap (λ i. entry i x ls Θ us) a ∙ ap (λ x. entry j x ls Θ us) b ∙ ap (λ ls. entry j y ls Θ us) c
    ∙ ap (λ Θ. entry j y ms Θ us) d

abbrev pub made : Head → ℕ → List ℕ → Tree → Opened → Terms → ConstructorEntry
made F k n t r us = entry (item_behind F.id k) (qualified F.home n) (labels t) r.binds us

abbrev pub staged : Entries → Head → ℕ → List ℕ → Tree → Asks ConstructorEntry
staged G F k n t = do
  r ← fields G n F.level F.params.scope (pieces t)
  us ← results G F.id (length F.params.binds) (length r.binds) r.scope (end_of t)
  Ask.done (made F k n t r us)

pub constructor-staged : (G : Entries) (F : Head) (k : ℕ) (n : List ℕ) (t : Tree) (s : Span) →
    constructor G F k (con n t s) ≡ staged G F k n t
constructor-staged G F k n t s =
    bind-along (fields G n F.level F.params.scope (pieces t)) _ _
    (λ r. sym (bind-assoc (judge G Part.erased r.scope Mode.synth (end_of t))
    (λ j. found (as_results F.id (length F.params.binds) (length r.binds) j.core)
    (Cause.not_a_family (depth r.scope) j.core) (at (place (end_of t)) rule.Families 6))
    (λ us. Ask.done (made F k n t r us))))
