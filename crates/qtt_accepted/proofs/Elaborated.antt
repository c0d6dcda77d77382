-- Elaboration makes no Tape: an induction over its rules.
use Rattle.std.proofs.Common.{◌≡◌, ℕ, zero, suc, List, [], ◌∷◌, Option, Some, None, slice_get, subst}
use Rattle.qtt_usage.specs.declared.mult.Mult.{Mult}
use Rattle.qtt_syntax.specs.declared.expr.Local.{Local}
use Rattle.qtt_syntax.specs.Tree.{Tree, Annotation, Arguments, Binders, Statements}
use Rattle.qtt_term.specs.Term.{Io, PrimTy, Named, Form, Term, var, node, ε, ◌▸◌, Pi, Fam}
use Rattle.qtt_term.specs.Substitution.{ren, closed}
use Rattle.qtt_term.specs.Signature.{Tele, IoTy, mult_of, signature}
use Rattle.qtt_term.specs.Judgement.{Part}
use Rattle.qtt_term.specs.Ask.{HeadIs}
use Rattle.qtt_term.specs.Environment.{NoTape, NoTapes}
use Rattle.qtt_term.proofs.Options.{none≢some, some-injective}
use Rattle.qtt_term.specs.Entries.{Entries, env}
use Rattle.qtt_term.specs.Scope.{Scope, shifted}
use Rattle.qtt_term.specs.Forms.{front}
use Rattle.qtt_rules.specs.Judged.{Judged, Mode}
use Rattle.qtt_bidi.specs.Elaboration.{lifted, Classified, Given, let_type, bound, param_count}
use Rattle.qtt_bidi.specs.Rules.{Found, Elaborates, IsType, Checked, Applied, FoundLambda, CheckedLambda, Valued, Runs}
use Rattle.qtt_bidi.proofs.Derived.{derived}
use Rattle.qtt_accepted.specs.Tapeless.{TeleTapeless, Tapeless, NameTapeless, NamesTapeless, ModeTapeless, JudgedTapeless}
use Rattle.qtt_accepted.specs.Laws.{ElaborationMakesNoTape}
use Rattle.qtt_accepted.proofs.Tapes.{of-first, of-rest, parts-of, renamed, Clean, substituted, cons-clean, push-clean, closed-clean, inst-clean, joined, front-clean, head-clean}
use Rattle.qtt_accepted.proofs.Signatures.{constructor-clean, telescope-clean, arguments-clean, type-clean}

named : (xs : List (Term × Term)) (i : ℕ) (x : Term × Term) → NamesTapeless xs → slice_get xs i ≡ Some x → NameTapeless
    x
named [] i x h e = absurd (none≢some e)
named (y ∷ xs) zero x h e = subst NameTapeless (some-injective e) h.0
named (y ∷ xs) (suc i) x h e = named xs i x h.1 e

all-shifted : (xs : List (Term × Term)) → NamesTapeless xs → NamesTapeless (shifted xs)
all-shifted [] h = tt
all-shifted (x ∷ xs) h = (
  record { term = renamed x.0 suc h.0.term; type = renamed x.1 suc h.0.type },
  all-shifted xs
      h.1,
)

pub with-name : (A : Term) (xs : List (Term × Term)) → NoTape A → NamesTapeless xs → NamesTapeless
    ((var 0, ren suc A) ∷ shifted xs)
with-name A xs h k = (record { term = tt; type = renamed A suc h }, all-shifted xs k)

bound-clean : (x : Option Local) (q : Mult) (A : Term) (S : Scope) → NoTape A → NamesTapeless S.names → NamesTapeless
    (bound x q A S).names
bound-clean None q A S h k = all-shifted S.names k
bound-clean (Some x) q A S h k = with-name A S.names h k

mode-lifted : (m : Mode) → ModeTapeless m → ModeTapeless (lifted m)
mode-lifted Mode.synth h = tt
mode-lifted (Mode.check A) h = renamed A suc h

let-clean : (m : Mode) (B e : Term) → ModeTapeless m → NoTape B → NoTape e → NoTape (let_type m B e)
let-clean Mode.synth B e h k l = inst-clean B e k l
let-clean (Mode.check A) B e h k l = h

module _ (G : Entries) (clean : Tapeless (env G)) where
  function-clean : {A : Term} {q : Mult} {D B : Term} → HeadIs (env G) A (Pi q D B) → NoTape A → NoTapes (D ▸ B ▸ ε)
  function-clean {A} {q} {D} {B} x h = parts-of (Form.pi q) (D ▸ B ▸ ε) (head-clean (env G) clean A (Pi q D B) x h)

  action-clean : {A : Term} {m : Io} {B : Term} → HeadIs (env G) A (IoTy m B) → NoTape A → NoTape B
  action-clean {A} {m} {B} x h = of-first B ε (parts-of (Form.named (Named.prim_ty (PrimTy.io_of m))) (B ▸ ε)
      (head-clean (env G) clean A (IoTy m B) x h))

  mutual
    found-clean : {p : Part} {S : Scope} {e : Tree} {j : Judged} → Found G p S e j → NamesTapeless S.names →
        JudgedTapeless j
    found-clean {S = S} (Found.variable {i = i} {k = k} {A = A} t n u) h = record
        { type = (named S.names i (var k, A) h n).type; core = tt }
    found-clean {S = S} (Found.stands {i = i} {F = F} {ts = ts} {A = A} t n u) h =
        let r = named S.names i (node F ts, A) h n in record { type = r.type; core = r.term }
    found-clean (Found.global {e = d} t m u) h = record { type = clean.types d; core = (λ x. x, tt) }
    found-clean Found.sort h = record { type = (λ x. x, tt); core = (λ x. x, tt) }
    found-clean {S = S} (Found.function_type {D = D} {C = C} a b) h =
        let d = type-of a h in
        record { type = (λ x. x, tt); core = (λ x. x, (d, (type-of b (with-name D.core S.names d h), tt))) }
    found-clean (Found.application x f a) h = applied-clean a (elaborated f h tt) h
    found-clean (Found.family {f = f} c a) h = record {
      type = (λ x. x, tt);
      core =
          (λ x. x, checked-clean a h (telescope-clean G clean f) closed-clean);
    }
    found-clean (Found.listed {n = n} {g = g} c a) h =
        let r = checked-clean a h (arguments-clean G clean n) closed-clean in
        record {
          type = substituted (signature (env G) n).type _ (push-clean g.cores closed r closed-clean)
              (type-clean G clean n);
          core = (λ x. x, r);
        }
    found-clean (Found.ascribed a e) h = elaborated e h (type-of a h)
    found-clean Found.integer h = record { type = (λ x. x, tt); core = (λ x. x, tt) }
    found-clean Found.string h = record { type = (λ x. x, tt); core = (λ x. x, tt) }

    pub elaborated : {p : Part} {S : Scope} {m : Mode} {e : Tree} {j : Judged} → Elaborates G p S m e j → NamesTapeless
        S.names → ModeTapeless m → JudgedTapeless j
    elaborated (Elaborates.found f) h k = found-clean f h
    elaborated (Elaborates.switch f c) h k = record { type = k; core = (found-clean f h).core }
    elaborated (Elaborates.lam_synth l) h k = found-lambda l h
    elaborated (Elaborates.lam_check l) h k = checked-lambda l h k
    elaborated (Elaborates.con_synth {c = c} {d = d} {g = g} n e z a) h k =
        let s = constructor-clean G clean c d e in
        let r = checked-clean a h s.fields closed-clean in
        record { type = substituted d.result _ (push-clean g.cores closed r closed-clean) s.result; core = (λ x. x, r) }
    elaborated (Elaborates.con_check {c = c} {d = d} {A = A} {xs = xs} {g = g} n e i a v) h k =
        let s = constructor-clean G clean c d e in
        let ys = front-clean (param_count G c) xs (parts-of (Form.fam c.family) xs
        (head-clean (env G) clean A (Fam c.family xs) i k)) in
        let r = checked-clean a h s.fields (push-clean (front (param_count G c) xs) closed ys closed-clean) in
        record { type = k; core = (λ x. x, joined (front (param_count G c) xs) g.cores ys r) }
    elaborated (Elaborates.pure {B = B} c i a) h k =
        let b = action-clean i k in
        record { type = k; core = (λ x. x, (b, checked-clean a h (tt, tt) (cons-clean B closed b closed-clean))) }
    elaborated {S = S} {m = m} (Elaborates.let_in {v = v} {j = j} x b f) h k =
        let r = valued-clean x h in
        let s = elaborated b (with-name v.type S.names r.type h) (mode-lifted m k) in
        record {
          type = let-clean m j.type v.core k s.type r.core;
          core =
              (λ x. x, ((λ x. x, (r.type, (s.core, tt))), (r.core, tt)));
        }
    elaborated (Elaborates.block r) h k = runs-clean r h k

    pub type-of : {S : Scope} {e : Tree} {D : Classified} → IsType G S e D → NamesTapeless S.names → NoTape D.core
    type-of (IsType.classified e x) h = (elaborated e h tt).core

    checked-clean : {p : Part} {S : Scope} {Θ : Tele} {σ : ℕ → Term} {es : Arguments} {g : Given} → Checked G p S Θ σ es
        g → NamesTapeless S.names →
        TeleTapeless Θ → Clean σ → NoTapes g.cores
    checked-clean Checked.none h k c = tt
    checked-clean (Checked.more {T = T} {σ = σ} {a = a} e r) h k c =
        let b = (elaborated e h (substituted T σ c k.0)).core in
        (b, checked-clean r h k.1 (cons-clean a.core σ b c))

    applied-clean : {p : Part} {S : Scope} {f j : Judged} {es : Arguments} → Applied G p S f es j → JudgedTapeless f →
        NamesTapeless S.names → JudgedTapeless j
    applied-clean Applied.itself k h = k
    applied-clean (Applied.to {a = a} {A = A} {B = B} x e r) k h =
        let F = function-clean x k.type in
        let b = (elaborated e h (of-first A (B ▸ ε) F)).core in
        applied-clean r (record {
          type = inst-clean B a.core (of-first B ε (of-rest A (B ▸ ε) F)) b;
          core =
              (λ x. x, (k.core, (b, tt)));
        }) h

    found-lambda : {p : Part} {S : Scope} {bs : Binders} {e : Tree} {j : Judged} → FoundLambda G p S bs e j →
        NamesTapeless S.names → JudgedTapeless j
    found-lambda (FoundLambda.found_body e) h = elaborated e h tt
    found-lambda {S = S} (FoundLambda.found_binder {D = D} a l f) h =
        let d = type-of a h in
        let b = found-lambda l (with-name D.core S.names d h) in
        record { type = (λ x. x, (d, (b.type, tt))); core = (λ x. x, (d, (b.core, tt))) }

    checked-lambda : {p : Part} {S : Scope} {T : Term} {bs : Binders} {e : Tree} {j : Judged} → CheckedLambda G p S T bs
        e j → NamesTapeless S.names → NoTape T → JudgedTapeless j
    checked-lambda (CheckedLambda.checked_body e) h k = elaborated e h k
    checked-lambda {S = S} (CheckedLambda.checked_binder {A = A} {B = B} x a l f) h k =
        let F = function-clean x k in
        let d = of-first A (B ▸ ε) F in
        let b = checked-lambda l (with-name A S.names d h) (of-first B ε (of-rest A (B ▸ ε) F)) in
        record { type = k; core = (λ x. x, (d, (b.core, tt))) }

    valued-clean : {p : Part} {S : Scope} {A : Annotation} {e : Tree} {j : Judged} → Valued G p S A e j → NamesTapeless
        S.names → JudgedTapeless j
    valued-clean (Valued.without_annotation e) h = elaborated e h tt
    valued-clean (Valued.with_annotation a e) h = elaborated e h (type-of a h)

    runs-clean : {p : Part} {S : Scope} {m : Mode} {ss : Statements} {j : Judged} → Runs G p S m ss j → NamesTapeless
        S.names → ModeTapeless m → JudgedTapeless j
    runs-clean (Runs.last e) h k = elaborated e h k
    runs-clean {S = S} (Runs.act {x = x} {T = T} {A = A} {m = m} a i e w r f) h k =
        let b = action-clean i k in
        let v = elaborated e h tt in
        let c = action-clean w v.type in
        let s = runs-clean r (bound-clean x (mult_of m) A S c h) (renamed T suc k) in
        record { type = k; core = (λ x. x, (c, (b, (v.core, ((λ x. x, (c, (s.core, tt))), tt))))) }
    runs-clean {S = S} {m = m} (Runs.let_then {v = v} {j = j} x b f) h k =
        let r = valued-clean x h in
        let s = runs-clean b (with-name v.type S.names r.type h) (mode-lifted m k) in
        record {
          type = let-clean m j.type v.core k s.type r.core;
          core =
              (λ x. x, ((λ x. x, (r.type, (s.core, tt))), (r.core, tt)));
        }

pub elaboration_makes_no_tape_holds : ElaborationMakesNoTape
elaboration_makes_no_tape_holds G p S m e j clean h k x = elaborated G clean (derived e G p S m j x) h k
