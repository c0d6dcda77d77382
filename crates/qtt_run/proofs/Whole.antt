-- Typed bodies without tapes are whole.
use Rattle.std.proofs.Common.{◌≡◌, ℕ, List, [], ◌∷◌, Option, Some, None, refl}
use Rattle.qtt_usage.specs.Uses.{Use}
use Rattle.qtt_term.specs.Term.{Form, Term, Terms}
use Rattle.qtt_term.specs.Signature.{Definition, Env, definition_of}
use Rattle.qtt_term.specs.Judgement.{Ctx, Part, Judged, Rule}
use Rattle.qtt_term.specs.Environment.{IsTape, NoTape, NoTapes, DefinitionFormed, WellFormed}
use Rattle.qtt_term.proofs.Options.{none≢some}
use Rattle.qtt_erase.specs.Erasure.{Fate, fates}
use Rattle.qtt_lower.specs.Source.{IsWholeForm, IsWhole, AreWhole, HasWholeBodies}
use Rattle.qtt_preserve.specs.Within.{Has, HasAll}
use Rattle.qtt_preserve.proofs.Sound.{sound_of}

rule-whole : {E : Env} {p : Part} {F : Form} {ts : Terms} {js : List Judged} {R : Term} {own : Use} →
    Rule E p F ts js R own →
    (IsTape F → ⊥) → IsWholeForm F ts
rule-whole Rule.sort n = tt
rule-whole Rule.pi n = tt
rule-whole Rule.lam n = tt
rule-whole Rule.app n = tt
rule-whole (Rule.fam there a) n = tt
rule-whole (Rule.con is a) n = tt
rule-whole (Rule.case there used a) n = tt
rule-whole (Rule.delete used) n = tt
rule-whole (Rule.named there used a) n = tt
rule-whole Rule.trap n = tt
rule-whole Rule.tape n = absurd (n tt)

mutual
  has-whole : {E : Env} {p : Part} {Γ : Ctx} {t A : Term} {u : Use} → Has E p Γ t A u → NoTape t → IsWhole E t
  has-whole (Has.at_var s m c f) n = tt
  has-whole {E} (Has.at_node {F = F} r hs c f) n = (rule-whole r n.0, all-whole hs (fates E F) n.1)

  all-whole : {E : Env} {p : Part} {Γ : Ctx} {ns : List ℕ} {ts : Terms} {js : List Judged} →
      HasAll E p Γ ns ts js → (fs : List Fate) →
      NoTapes ts → AreWhole E fs ts
  all-whole HasAll.none fs n = tt
  all-whole (HasAll.more e d f hs) [] n = tt
  all-whole (HasAll.more e d f hs) (None ∷ fs) n = all-whole hs fs n.1
  all-whole (HasAll.more e d f hs) (Some ss ∷ fs) n = (has-whole d n.0, all-whole hs fs n.1)

body-no_tape : {E : Env} (o : Option Definition) (b : Term) → ((D : Definition) → o ≡ Some D → DefinitionFormed E D) →
    (definition_of o).body ≡ Some b → NoTape b
body-no_tape None b w e = absurd (none≢some e)
body-no_tape (Some D) b w e = (w D refl).no_tape b e

pub bodies-whole : (E : Env) → WellFormed E → HasWholeBodies E
bodies-whole E w d b used e =
    has-whole ((sound_of w).typed d b e Part.run used) (body-no_tape (E.definition d) b (w.definitions d) e)
