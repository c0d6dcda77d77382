-- Elaboration stays in its scope: an induction over its rules.
use Rattle.std.proofs.Common.{◌≡◌, ℕ, zero, suc, List, [], ◌∷◌, Option, Some, None, slice_get, refl, sym, subst, arith}
use Rattle.qtt_usage.specs.declared.mult.Mult.{Mult}
use Rattle.qtt_syntax.specs.declared.expr.Local.{Local}
use Rattle.qtt_syntax.specs.Tree.{Tree, Annotation, Arguments, Binders, Statements}
use Rattle.qtt_term.specs.Term.{Io, Term, var, node, ε, ◌▸◌, Pi, Lam, Fam}
use Rattle.qtt_term.specs.Substitution.{ren, closed, Below}
use Rattle.qtt_term.specs.Signature.{Tele, IoTy, mult_of, signature, definition_at}
use Rattle.qtt_term.specs.Contraction.{BodiesClosed}
use Rattle.qtt_term.specs.Judgement.{Part}
use Rattle.qtt_term.specs.Ask.{HeadIs}
use Rattle.qtt_term.proofs.Options.{none≢some, some-injective}
use Rattle.qtt_term.proofs.Scope.{closed-below}
use Rattle.qtt_term.specs.Entries.{Entries, env}
use Rattle.qtt_term.specs.Scope.{Scope, shifted, depth}
use Rattle.qtt_term.specs.Forms.{front}
use Rattle.qtt_rules.specs.Judged.{Judged, Mode}
use Rattle.qtt_bidi.specs.Elaboration.{lifted, Classified, Given, let_type, bound, param_count}
use Rattle.qtt_bidi.specs.Rules.{Found, Elaborates, IsType, Checked, Applied, FoundLambda, CheckedLambda, Valued, Runs}
use Rattle.qtt_bidi.proofs.Derived.{derived}
use Rattle.qtt_accepted.specs.Laws.{ElaborationStaysInScope}
use Rattle.qtt_accepted.specs.Scoped.{TypesClosed, NameBelow, NamesBelow, ModeBelow, JudgedBelow}
use Rattle.qtt_accepted.proofs.Below.{raised, In, more, of-first, joined, front-below, pi-parts, pi-below, lam-below, app-below, All, substituted, closed-all, cons-all, push-all, inst-below, head-below}

named : (n : ℕ) (xs : List (Term × Term)) (i : ℕ) (x : Term × Term) → NamesBelow n xs → slice_get xs i ≡ Some x →
    NameBelow n x
named n [] i x h e = absurd (none≢some e)
named n (y ∷ xs) zero x h e = subst (NameBelow n) (some-injective e) h.0
named n (y ∷ xs) (suc i) x h e = named n xs i x h.1 e

all-shifted : (n : ℕ) (xs : List (Term × Term)) → NamesBelow n xs → NamesBelow (suc n) (shifted xs)
all-shifted n [] h = tt
all-shifted n (x ∷ xs) h =
    (record { term = raised n x.0 h.0.term; type = raised n x.1 h.0.type }, all-shifted n xs h.1)

pub with-name : (n : ℕ) (A : Term) (xs : List (Term × Term)) → Below n A → NamesBelow n xs →
    NamesBelow (suc n) ((var 0, ren suc A) ∷ shifted xs)
with-name n A xs h k = (record { term = omega arith; type = raised n A h }, all-shifted n xs k)

bound-below : (x : Option Local) (q : Mult) (A : Term) (S : Scope) → Below (depth S) A →
    NamesBelow (depth S) S.names → NamesBelow (suc (depth S)) (bound x q A S).names
bound-below None q A S h k = all-shifted (depth S) S.names k
bound-below (Some x) q A S h k = with-name (depth S) A S.names h k

bound-vars : (x : Option Local) (q : Mult) (A : Term) (S : Scope) → depth (bound x q A S) ≡ suc (depth S)
bound-vars None q A S = refl
bound-vars (Some x) q A S = refl

mode-lifted : (n : ℕ) (m : Mode) → ModeBelow n m → ModeBelow (suc n) (lifted m)
mode-lifted n Mode.synth h = tt
mode-lifted n (Mode.check A) h = raised n A h

let-below : (n : ℕ) (m : Mode) (B e : Term) → ModeBelow n m → Below (suc n) B → Below n e → Below n (let_type m B e)
let-below n Mode.synth B e h k l = inst-below n B e k l
let-below n (Mode.check A) B e h k l = h

record Two (n : ℕ) (A B : Term) : Type 0 where
  first : Below n A
  second : Below (suc n) B

module _ (G : Entries) (bodies : BodiesClosed (env G)) (types : TypesClosed (env G)) where
  function-below : (n : ℕ) {A : Term} {q : Mult} {D B : Term} → HeadIs (env G) A (Pi q D B) → Below n A → Two n D B
  function-below n {A} {q} {D} {B} x h =
      let p = pi-parts n q D B (head-below bodies n A (Pi q D B) x h) in record { first = p.0; second = p.1 }

  action-below : (n : ℕ) {A : Term} {m : Io} {B : Term} → HeadIs (env G) A (IoTy m B) → Below n A → Below n B
  action-below n {A} {m} {B} x h = of-first n B ε (head-below bodies n A (IoTy m B) x h)

  mutual
    found-below : {p : Part} {S : Scope} {e : Tree} {j : Judged} → Found G p S e j → NamesBelow (depth S) S.names →
        JudgedBelow (depth S) j
    found-below {S = S} (Found.variable {i = i} {k = k} {A = A} t n u) h =
        let r = named (depth S) S.names i (var k, A) h n in record { type = r.type; core = r.term }
    found-below {S = S} (Found.stands {i = i} {F = F} {ts = ts} {A = A} t n u) h =
        let r = named (depth S) S.names i (node F ts, A) h n in record { type = r.type; core = r.term }
    found-below {S = S} (Found.global {e = d} t m u) h =
        record { type = closed-below (definition_at (env G) d).type (depth S) (types d); core = tt }
    found-below Found.sort h = record { type = tt; core = tt }
    found-below {S = S} (Found.function_type {q = q} {D = D} {C = C} a b) h =
        let d = type-below a h in
        record {
          type = tt;
          core = pi-below (depth S) q D.core C.core d (type-below b (with-name (depth S) D.core S.names d h));
        }
    found-below (Found.application x f a) h = applied-below a (elaborated f h tt) h
    found-below {S = S} (Found.family a b) h =
        record { type = tt; core = checked-below b h (closed-all (depth S)) }
    found-below {S = S} (Found.listed {n = n} {g = g} c a) h =
        let r = checked-below a h (closed-all (depth S)) in
        record {
          type =
              substituted (depth S) (signature (env G) n).type _
              (push-all (depth S) g.cores closed r (closed-all (depth S)));
          core = r;
        }
    found-below (Found.ascribed a e) h = elaborated e h (type-below a h)
    found-below Found.integer h = record { type = tt; core = tt }
    found-below Found.string h = record { type = tt; core = tt }

    pub elaborated : {p : Part} {S : Scope} {m : Mode} {e : Tree} {j : Judged} → Elaborates G p S m e j →
        NamesBelow (depth S) S.names → ModeBelow (depth S) m → JudgedBelow (depth S) j
    elaborated (Elaborates.found f) h k = found-below f h
    elaborated (Elaborates.switch f c) h k = record { type = k; core = (found-below f h).core }
    elaborated (Elaborates.lam_synth l) h k = found-lambda l h
    elaborated (Elaborates.lam_check l) h k = checked-lambda l h k
    elaborated {S = S} (Elaborates.con_synth {c = c} {d = d} {g = g} n e z a) h k =
        let r = checked-below a h (closed-all (depth S)) in
        record {
          type = substituted (depth S) d.result _ (push-all (depth S) g.cores closed r (closed-all (depth S)));
          core = r;
        }
    elaborated {S = S} (Elaborates.con_check {c = c} {d = d} {A = A} {xs = xs} {g = g} n e i a v) h k =
        let ys = front-below (depth S) (param_count G c) xs (head-below bodies (depth S) A (Fam c.family xs) i k) in
        let r = checked-below a h
        (push-all (depth S) (front (param_count G c) xs) closed ys (closed-all (depth S))) in
        record { type = k; core = joined (depth S) (front (param_count G c) xs) g.cores ys r }
    elaborated {S = S} (Elaborates.pure {B = B} {g = g} c i a) h k =
        let b = action-below (depth S) i k in
        record {
          type = k;
          core = more (depth S) B g.cores b (checked-below a h (cons-all (depth S) B closed b (closed-all (depth S))));
        }
    elaborated {S = S} {m = m} (Elaborates.let_in {q = q} {v = v} {j = j} x b f) h k =
        let r = valued-below x h in
        let s = elaborated b (with-name (depth S) v.type S.names r.type h) (mode-lifted (depth S) m k) in
        record {
          type = let-below (depth S) m j.type v.core k s.type r.core;
          core =
              app-below (depth S) q (Lam q v.type j.core) v.core
              (lam-below (depth S) q v.type j.core r.type s.core) r.core;
        }
    elaborated (Elaborates.block r) h k = runs-below r h k

    pub type-below : {S : Scope} {e : Tree} {D : Classified} → IsType G S e D → NamesBelow (depth S) S.names →
        Below (depth S) D.core
    type-below (IsType.classified e x) h = (elaborated e h tt).core

    checked-below : {p : Part} {S : Scope} {Θ : Tele} {σ : ℕ → Term} {es : Arguments} {g : Given} →
        Checked G p S Θ σ es g → NamesBelow (depth S) S.names → All (depth S) σ → In (depth S) g.cores
    checked-below Checked.none h c = tt
    checked-below {S = S} (Checked.more {T = T} {σ = σ} {a = a} {g = g} e r) h c =
        let b = (elaborated e h (substituted (depth S) T σ c)).core in
        more (depth S) a.core g.cores b (checked-below r h (cons-all (depth S) a.core σ b c))

    applied-below : {p : Part} {S : Scope} {f j : Judged} {es : Arguments} → Applied G p S f es j →
        JudgedBelow (depth S) f → NamesBelow (depth S) S.names → JudgedBelow (depth S) j
    applied-below Applied.itself k h = k
    applied-below {S = S} (Applied.to {f = f} {a = a} {q = q} {A = A} {B = B} x e r) k h =
        let F = function-below (depth S) x k.type in
        let b = (elaborated e h F.first).core in
        applied-below r (record {
          type = inst-below (depth S) B a.core F.second b;
          core = app-below (depth S) q f.core a.core k.core b;
        }) h

    found-lambda : {p : Part} {S : Scope} {bs : Binders} {e : Tree} {j : Judged} → FoundLambda G p S bs e j →
        NamesBelow (depth S) S.names → JudgedBelow (depth S) j
    found-lambda (FoundLambda.found_body e) h = elaborated e h tt
    found-lambda {S = S} (FoundLambda.found_binder {q = q} {D = D} {j = j} a l f) h =
        let d = type-below a h in
        let b = found-lambda l (with-name (depth S) D.core S.names d h) in
        record {
          type = pi-below (depth S) q D.core j.type d b.type;
          core = lam-below (depth S) q D.core j.core d b.core;
        }

    checked-lambda : {p : Part} {S : Scope} {T : Term} {bs : Binders} {e : Tree} {j : Judged} →
        CheckedLambda G p S T bs e j → NamesBelow (depth S) S.names → Below (depth S) T → JudgedBelow (depth S) j
    checked-lambda (CheckedLambda.checked_body e) h k = elaborated e h k
    checked-lambda {S = S} (CheckedLambda.checked_binder {q = q} {A = A} {j = j} x a l f) h k =
        let F = function-below (depth S) x k in
        let b = checked-lambda l (with-name (depth S) A S.names F.first h) F.second in
        record { type = k; core = lam-below (depth S) q A j.core F.first b.core }

    valued-below : {p : Part} {S : Scope} {A : Annotation} {e : Tree} {j : Judged} → Valued G p S A e j →
        NamesBelow (depth S) S.names → JudgedBelow (depth S) j
    valued-below (Valued.without_annotation e) h = elaborated e h tt
    valued-below (Valued.with_annotation a e) h = elaborated e h (type-below a h)

    runs-below : {p : Part} {S : Scope} {m : Mode} {ss : Statements} {j : Judged} → Runs G p S m ss j →
        NamesBelow (depth S) S.names → ModeBelow (depth S) m → JudgedBelow (depth S) j
    runs-below (Runs.last e) h k = elaborated e h k
    runs-below {S = S} (Runs.act {x = x} {T = T} {A = A} {B = B} {m = m} {j = j} {k = rest} a i e w r f) h k =
        let n = depth S in
        let b = action-below n i k in
        let v = elaborated e h tt in
        let c = action-below n w v.type in
        let d = bound-vars x (mult_of m) A S in
        let s = runs-below r (subst (λ z. NamesBelow z (bound x (mult_of m) A S).names) (sym d)
        (bound-below x (mult_of m) A S c h)) (subst (λ z. Below z (ren suc T)) (sym d) (raised n T k)) in
        let u = subst (λ z. Below z rest.core) d s.core in
        record {
          type = k;
          core =
              more n A (B ▸ j.core ▸ Lam (mult_of m) A rest.core ▸ ε) c
              (more n B (j.core ▸ Lam (mult_of m) A rest.core ▸ ε) b
              (more n j.core (Lam (mult_of m) A rest.core ▸ ε) v.core
              (more n (Lam (mult_of m) A rest.core) ε (lam-below n (mult_of m) A rest.core c u) tt)));
        }
    runs-below {S = S} {m = m} (Runs.let_then {q = q} {v = v} {j = j} x b f) h k =
        let r = valued-below x h in
        let s = runs-below b (with-name (depth S) v.type S.names r.type h) (mode-lifted (depth S) m k) in
        record {
          type = let-below (depth S) m j.type v.core k s.type r.core;
          core =
              app-below (depth S) q (Lam q v.type j.core) v.core
              (lam-below (depth S) q v.type j.core r.type s.core) r.core;
        }

pub elaboration_stays_in_scope_holds : ElaborationStaysInScope
elaboration_stays_in_scope_holds G p S m e j bodies types h k x =
    elaborated G bodies types (derived e G p S m j x) h k
