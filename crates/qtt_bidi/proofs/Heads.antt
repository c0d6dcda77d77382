-- Heads that are looked for.
use Rattle.std.proofs.Common.{◌≡◌, ℕ, Bool, true, false, Some, None, cond, refl, ap, subst}
use Rattle.qtt_base.specs.declared.place.GlobalId.{GlobalId}
use Rattle.qtt_usage.specs.declared.mult.Mult.{Mult}
use Rattle.qtt_term.specs.Term.{Io, PrimTy, Named, Form, Term, Terms, node, ε, ◌▸◌, Sort, Pi, Fam, same_id}
use Rattle.qtt_term.specs.Signature.{Env, IoTy}
use Rattle.qtt_term.specs.Question.{same_io}
use Rattle.qtt_term.specs.Ask.{HeadIs}
use Rattle.qtt_term.specs.Forms.{Function, as_sort, as_function}
use Rattle.qtt_term.proofs.Same.{same_id-is, id-same, same_io-exact}
use Rattle.qtt_bidi.specs.Premises.{Action, as_family, as_action, as_action_of}
use Rattle.qtt_bidi.proofs.Endings.{HeadSeen}

sort_seen : (h : Term) (l : ℕ) → as_sort h ≡ Some l → h ≡ Sort l
sort_seen (node (Form.sort k) ε) l e = let d : k ≡ l = cc e in ap Sort d
sort_seen _ l e = absurd (cc e)

function_seen : (h : Term) (F : Function) → as_function h ≡ Some F → h ≡ Pi F.mult F.domain F.codomain
function_seen (node (Form.pi q) (A ▸ B ▸ ε)) F e = let d : record { mult = q; domain = A; codomain = B } ≡ F = cc e in
    ap (λ G. Pi G.mult G.domain G.codomain) d
function_seen _ F e = absurd (cc e)

family_seen : (f : GlobalId) (h : Term) (ts : Terms) → as_family f h ≡ Some ts → h ≡ Fam f ts
family_seen f (node (Form.fam g) ss) ts e = by_test (same_id f g) refl e
  where
    by_test : (b : Bool) → same_id f g ≡ b → cond b (Some ss) None ≡ Some ts → Fam g ss ≡ Fam f ts
    by_test true t e = let d : ss ≡ ts = cc e in rw (same_id-is f g t, d)
    by_test false t e = absurd (cc e)
family_seen f _ ts e = absurd (cc e)

action_seen : (h : Term) (a : Action) → as_action h ≡ Some a → h ≡ IoTy a.io a.result
action_seen (node (Form.named (Named.prim_ty (PrimTy.io_of m))) (A ▸ ε)) a e =
    let d : record { io = m; result = A } ≡ a = cc e in ap (λ b. IoTy b.io b.result) d
action_seen _ a e = absurd (cc e)

result_seen : (m : Io) (h B : Term) → as_action_of m h ≡ Some B → h ≡ IoTy m B
result_seen m (node (Form.named (Named.prim_ty (PrimTy.io_of n))) (A ▸ ε)) B e = by_test (same_io m n) refl e
  where
    by_test : (b : Bool) → same_io m n ≡ b → cond b (Some A) None ≡ Some B → IoTy n A ≡ IoTy m B
    by_test true t e = let d : A ≡ B = cc e in let s : m ≡ n = (same_io-exact m n).0 t in rw (s, d)
    by_test false t e = absurd (cc e)
result_seen m _ B e = absurd (cc e)

module _ {E : Env} {A : Term} where
  pub sort_head : {l : ℕ} → HeadSeen E as_sort A l → HeadIs E A (Sort l)
  sort_head {l} f = subst (λ h. HeadIs E A h) (sort_seen f.head l f.seen) f.is_head

  pub head_sort : {l : ℕ} → HeadIs E A (Sort l) → HeadSeen E as_sort A l
  head_sort {l} x = record { head = Sort l; is_head = x; seen = refl }

  pub function_head : {F : Function} → HeadSeen E as_function A F → HeadIs E A (Pi F.mult F.domain F.codomain)
  function_head {F} f = subst (λ h. HeadIs E A h) (function_seen f.head F f.seen) f.is_head

  pub head_function : {q : Mult} {D B : Term} → HeadIs E A (Pi q D B) →
      HeadSeen E as_function A (record { mult = q; domain = D; codomain = B })
  head_function {q} {D} {B} x = record { head = Pi q D B; is_head = x; seen = refl }

  pub family_head : {f : GlobalId} {ts : Terms} → HeadSeen E (as_family f) A ts → HeadIs E A (Fam f ts)
  family_head {f} {ts} x = subst (λ h. HeadIs E A h) (family_seen f x.head ts x.seen) x.is_head

  pub head_family : {f : GlobalId} {ts : Terms} → HeadIs E A (Fam f ts) → HeadSeen E (as_family f) A ts
  head_family {f} {ts} x = record { head = Fam f ts; is_head = x; seen = ap (λ b. cond b (Some ts) None) (id-same f) }

  pub action_head : {a : Action} → HeadSeen E as_action A a → HeadIs E A (IoTy a.io a.result)
  action_head {a} f = subst (λ h. HeadIs E A h) (action_seen f.head a f.seen) f.is_head

  pub head_action : {m : Io} {B : Term} → HeadIs E A (IoTy m B) → HeadSeen E as_action A (record { io = m; result = B })
  head_action {m} {B} x = record { head = IoTy m B; is_head = x; seen = refl }

  pub result_head : {m : Io} {B : Term} → HeadSeen E (as_action_of m) A B → HeadIs E A (IoTy m B)
  result_head {m} {B} f = subst (λ h. HeadIs E A h) (result_seen m f.head B f.seen) f.is_head

  pub head_result : {m : Io} {B : Term} → HeadIs E A (IoTy m B) → HeadSeen E (as_action_of m) A B
  head_result {m} {B} x = record {
    head = IoTy m B;
    is_head = x;
    seen = ap (λ b. cond b (Some B) None) ((same_io-exact m m).1 refl);
  }
