-- Each signature that a judged module gives has the binders that it counts.
use Rattle.std.proofs.Common.{◌≡◌, ℕ, List, All, Result, Ok, Err, sym, ap, subst}
use Rattle.qtt_base.specs.declared.place.ModuleId.{ModuleId}
use Rattle.qtt_syntax.specs.Tree.{Module}
use Rattle.qtt_names.specs.Exports.{Exports}
use Rattle.qtt_names.specs.Scope.{module_name}
use Rattle.qtt_implicit.specs.Filled.{FilledText, filled}
use Rattle.qtt_implicit.specs.Filled as implicit
use Rattle.qtt_implicit.specs.Laws.{HasItsBinders}
use Rattle.qtt_term.specs.Entries.{Entries}
use Rattle.qtt_module.specs.Prepared.{has_name, named, filled_in, prepared}
use Rattle.qtt_module.specs.Refused.{Answer, ◌>>=◌}
use Rattle.qtt_module.specs.Text.{Accepted, judged_text}
use Rattle.qtt_module.specs.TextCalls.{DeclaresText}
use Rattle.qtt_module.proofs.Judged.{texts_are_judged_holds}
use Rattle.qtt_forgetting_laws.proofs.Signatures.{filled_have}

-- the text that was filled
record Prepares (id : ModuleId) (imports : List Exports) (f : FilledText) : Type 0 where
  text : Module
  is_filled : filled id imports text ≡ Ok f

filled_in_ok : (M : List ℕ) (q : Result FilledText implicit.Refusal) (f : FilledText) → filled_in M q ≡ Ok f →
    q ≡ Ok f
filled_in_ok M (Ok t) f e = (let h : t ≡ f = cc e in ap (λ (x : FilledText). Ok x) h)
filled_in_ok M (Err (implicit.Refusal.unsolved x s)) f e = absurd (cc e)
filled_in_ok M (Err (implicit.Refusal.braces k n s)) f e = absurd (cc e)
filled_in_ok M (Err (implicit.Refusal.too_large n s)) f e = absurd (cc e)

prepares : (id : ModuleId) (asked : List ℕ) (imports : List Exports) (m : Module) (f : FilledText) →
    prepared id asked imports m ≡ Ok f → Prepares id imports f
unfolding ◌>>=◌
prepares id asked imports m f e = by (has_name asked m) (named id imports m) e
  where
    by : (a : Answer (Unit {0})) (b : Answer Module) →
        (a >>= λ u. b >>= λ t. filled_in (module_name m) (filled id imports t)) ≡ Ok f → Prepares id imports f
    by (Ok u) (Ok t) g =
        record { text = t; is_filled = filled_in_ok (module_name m) (filled id imports t) f g }
    by (Ok u) (Err r) g = absurd (cc g)
    by (Err r) b g = absurd (cc g)

pub judged_have : (id : ModuleId) (n : ℕ) (asked : List ℕ) (imports : List Exports) (G : Entries) (m : Module)
    (A : Accepted) → judged_text id n asked imports G m ≡ Ok A → All HasItsBinders A.exports.sigs
judged_have id n asked imports G m A e = by (texts_are_judged_holds.accepted id n asked imports G m A e)
  where
    by : DeclaresText id asked imports G m A → All HasItsBinders A.exports.sigs
    by d =
        let p = prepares id asked imports m d.filled d.reads in
        let same : d.filled.sigs ≡ A.exports.sigs = sym (ap (λ (B : Accepted). B.exports.sigs) d.gives) in
        subst (All HasItsBinders) same (filled_have id imports p.text d.filled p.is_filled)
