use Rattle.std.proofs.Common.{◌≡◌, ℕ, List, map, ap, ◌∙◌}
use Rattle.qtt_base.specs.declared.place.GlobalId.{GlobalId}
use Rattle.qtt_term.specs.Term.{Term}
use Rattle.qtt_term.specs.Signature.{Tele, Constructor}
use Rattle.qtt_term.specs.Items.{ConstructorEntry, FamilyEntry}
use Rattle.qtt_term.specs.Telescopes.{tele}
use Rattle.qtt_term.specs.View.{terms}
use Rattle.qtt_module.proofs.Appended.{back-at-zero, constructors-within}
use Rattle.qtt_module.proofs.heads.FamilyHead.family.Goals as goal

abbrev entry : GlobalId → List ℕ → Tele → List Term → ℕ → List Constructor → List ConstructorEntry → FamilyEntry
entry i x Θ Ts l ks ds = record {
  id = i;
  name = x;
  family = record { params = Θ; indices = Ts; level = l; constructors = ks };
  constructors = ds;
}

same : {i : GlobalId} {x y : List ℕ} {Θ Δ : Tele} {Ts Us : List Term} {l : ℕ} {ks js : List Constructor}
    {ds : List ConstructorEntry} → x ≡ y → Θ ≡ Δ → Ts ≡ Us → ks ≡ js → entry i x Θ Ts l ks ds ≡ entry i y Δ Us l js ds
same {i} {x} {y} {Θ} {Δ} {Ts} {Us} {l} {ks} {js} {ds} a b c d =
    ap (λ x. entry i x Θ Ts l ks ds) a ∙ ap (λ Θ. entry i y Θ Ts l ks ds) b ∙ ap (λ Ts. entry i y Δ Ts l ks ds) c
    ∙ ap (λ ks. entry i y Δ Us l ks ds) d

pub returns : goal.returns
returns c =
    let F = c.args.self.now in
    same c.in_ok-qualified.ensures
    (back-at-zero (tele F.params.vars.items) (terms c.in_ok-types_of.field-0.items)
    (c.in_ok-types_of.ensures ∙ ap (λ vs. map (λ b. b.1) (tele vs)) c.deref.ensures.value) F.erased)
    (c.in_ok-copy_all.ensures ∙ ap terms c.deref-2.ensures.value) (constructors-within c.args.constructors.items)
