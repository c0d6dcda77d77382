-- A term that is convertible to a head has a head of the same outline.
use Rattle.std.proofs.Common.{◌≡◌, ℕ, zero, suc, refl, sym, ◌∙◌, ap, Option, Some, None, arith}
use Rattle.qtt_prims.specs.declared.lit.Lit.{Lit}
use Rattle.qtt_term.specs.Term.{Named, Form, Term, Terms, var, node, ε, ◌▸◌, size}
use Rattle.qtt_term.specs.Signature.{Env}
use Rattle.qtt_term.specs.Contraction.{BodiesClosed, as_lit, contract, Reduces, Conv}
use Rattle.qtt_term.specs.Question.{wrap, argument_step, scrutinee_place, asked, head_step, step_at, arguments_step}
use Rattle.qtt_term.specs.Ask.{HeadIs}
use Rattle.qtt_confluence.specs.Heads.{IsHead, Toward}
use Rattle.qtt_confluence.specs.Standard.{Standard, Standards, HasHeadLike}
use Rattle.qtt_confluence.proofs.Parallel.{ParMany}
use Rattle.qtt_confluence.proofs.Confluence.{conv-meet, many-reduces}
use Rattle.qtt_confluence.proofs.Heads.{either-none, wrap-none, Alike, StillAt, ArgumentsStill, StillIn, as_lit-alike, still-stays, stays}
use Rattle.qtt_confluence.proofs.HeadCount.{found, toward-reduces}
use Rattle.qtt_confluence.proofs.Compare.{agree}
use Rattle.qtt_confluence.proofs.HeadSteps.{Along, along-join, place-first, place-behind, arguments-first, arguments-behind, Leads, toward-join, form-leads}
use Rattle.qtt_confluence.proofs.Standard.{standards-size, literal-reached, reduces-standard}

-- ---- components are brought to their heads
-- a head that the contractions toward the head lead to, alike r
record Stands (E : Env) (t r : Term) : Type 0 where
  head : Term
  leads : Leads E t head
  is_head : head_step E head ≡ None
  alike : Alike r head

-- components, of which so many stand in the place of rs
record Brought (E : Env) (next : Terms → Option Terms) (Still : Terms → Terms → Type 0) (ts rs : Terms) : Type 0 where
  parts : Terms
  along : Along next ts parts
  still : Still rs parts
  sized : size parts ≡ size rs

brought-as : {E : Env} {next : Terms → Option Terms} {ts rs : Terms} (S T : Terms → Terms → Type 0) →
    ((ss : Terms) → S rs ss → T rs ss) → Brought E next S ts rs → Brought E next T ts rs
brought-as S T f b = record { parts = b.parts; along = b.along; still = f b.parts b.still; sized = b.sized }

abbrev AtPlace : Env → ℕ → Terms → Terms → Type 0
AtPlace E n ts rs = Brought E (λ ts. step_at E ts n) (StillAt E n) ts rs

abbrev AtArguments : Env → Terms → Terms → Type 0
AtArguments E ts rs = Brought E (arguments_step E) (ArgumentsStill E) ts rs

abbrev AtForm : Env → Form → Terms → Terms → Type 0
AtForm E F ts rs = Brought E (λ ts. asked F (step_at E ts) (arguments_step E ts)) (StillIn E F) ts rs

unasked : {E : Env} {next : Terms → Option Terms} {Still : Terms → Terms → Type 0} {ts rs : Terms} →
    Standards E ts rs → Still rs ts → Brought E next Still ts rs
unasked {ts = ts} hs h = record { parts = ts; along = Along.stay; still = h; sized = standards-size hs }

form-brought : (E : Env) (F : Form) (ts rs : Terms) → Standards E ts rs →
    ((n : ℕ) → step_at E rs n ≡ None → AtPlace E n ts rs) → (arguments_step E rs ≡ None → AtArguments E ts rs) →
    asked F (step_at E rs) (arguments_step E rs) ≡ None → AtForm E F ts rs
form-brought E (Form.app q) ts rs hs one more h = one 0 h
form-brought E (Form.case q f k m ns) ts rs hs one more h = one (scrutinee_place k ns) h
form-brought E (Form.delete q) ts rs hs one more h = one 4 h
form-brought E (Form.named (Named.prim p)) ts rs hs one more h = more h
form-brought E (Form.named (Named.def d)) ts rs hs one more h = unasked hs tt
form-brought E (Form.named (Named.lit l)) ts rs hs one more h = unasked hs tt
form-brought E (Form.named (Named.prim_ty t)) ts rs hs one more h = unasked hs tt
form-brought E (Form.named (Named.act a k)) ts rs hs one more h = unasked hs tt
form-brought E (Form.sort l) ts rs hs one more h = unasked hs tt
form-brought E (Form.pi q) ts rs hs one more h = unasked hs tt
form-brought E (Form.lam q) ts rs hs one more h = unasked hs tt
form-brought E (Form.fam f) ts rs hs one more h = unasked hs tt
form-brought E (Form.con f c k) ts rs hs one more h = unasked hs tt
form-brought E Form.trap ts rs hs one more h = unasked hs tt
form-brought E (Form.tape n) ts rs hs one more h = unasked hs tt

-- the first argument that is no literal, or the arguments after a literal
argument-brought : (E : Env) (t r : Term) (ts rs : Terms) (o : Option Lit) → as_lit r ≡ o → Standard E t r →
    Standards E ts rs → argument_step o r rs (head_step E r) (arguments_step E rs) ≡ None →
    (head_step E r ≡ None → Stands E t r) → (arguments_step E rs ≡ None → AtArguments E ts rs) →
    AtArguments E (t ▸ ts) (r ▸ rs)
argument-brought E t r ts rs None n k ks h one more =
    let a = one (wrap-none (λ s. s ▸ rs) (head_step E r) h) in
    let o : as_lit a.head ≡ None = as_lit-alike a.alike ∙ n in
    record {
      parts = a.head ▸ ts;
      along = arguments-first a.leads.toward;
      still = record { still = rw (o, a.is_head) refl; literal = rw (o, n) refl };
      sized = ap suc (standards-size ks);
    }
argument-brought E t r ts rs (Some l) n k ks h one more =
    let b = more (wrap-none (λ ss. r ▸ ss) (arguments_step E rs) h) in
    record {
      parts = r ▸ b.parts;
      along = along-join (arguments-first (literal-reached t r l n k).toward) (arguments-behind n b.along);
      still = record { still = rw (n, b.still.still) refl; literal = rw (n, b.still.literal) refl };
      sized = ap suc b.sized;
    }

node-stands : (E : Env) {n : ℕ} (F : Form) (t : Term) (ts rs : Terms) → Toward E n t (node F ts) →
    contract E F rs ≡ None → AtForm E F ts rs → Stands E t (node F rs)
node-stands E F t ts rs w c b =
    let s = still-stays E F rs b.parts c (sym b.sized) b.still in
    record {
      head = node F b.parts;
      leads = toward-join w (form-leads b.along).toward;
      is_head = s.step;
      alike = s.alike;
    }

module _ (E : Env) where
  mutual
    stands : (t r : Term) → Standard E t r → head_step E r ≡ None → Stands E t r
    stands t (var i) (Standard.at_variable {n = n} w) h =
        record { head = var i; leads = record { count = n; toward = w }; is_head = h; alike = Alike.alike_var }
    stands t (node F rs) (Standard.at_form {ts = ts} w hs) h =
        let c = either-none (contract E F rs) (wrap (node F) (asked F (step_at E rs) (arguments_step E rs))) h in
        node-stands E F t ts rs w c.0
        (form-brought E F ts rs hs (λ n k. at-place ts rs hs n k) (λ k. at-arguments ts rs hs k)
        (wrap-none (node F) _ c.1))

    at-place : (ts rs : Terms) → Standards E ts rs → (n : ℕ) → step_at E rs n ≡ None → AtPlace E n ts rs
    at-place ts ε Standards.none n h = record { parts = ε; along = Along.stay; still = StillAt.off; sized = refl }
    at-place _ (r ▸ rs) (Standards.more {t = t} {ts = ts} k ks) zero h =
        let a = stands t r k (wrap-none (λ s. s ▸ rs) (head_step E r) h) in
        record {
          parts = a.head ▸ ts;
          along = place-first a.leads.toward;
          still = StillAt.now (a.is_head, a.alike);
          sized = ap suc (standards-size ks);
        }
    at-place _ (r ▸ rs) (Standards.more {t = t} {ts = ts} k ks) (suc n) h =
        let b = at-place ts rs ks n (wrap-none (λ ss. r ▸ ss) (step_at E rs n) h) in
        record {
          parts = t ▸ b.parts;
          along = place-behind b.along;
          still = StillAt.behind_one b.still;
          sized = ap suc b.sized;
        }

    at-arguments : (ts rs : Terms) → Standards E ts rs → arguments_step E rs ≡ None → AtArguments E ts rs
    at-arguments ts ε Standards.none h =
        record { parts = ε; along = Along.stay; still = record { still = refl; literal = refl }; sized = refl }
    at-arguments _ (r ▸ rs) (Standards.more {t = t} {ts = ts} k ks) h =
        argument-brought E t r ts rs (as_lit r) refl k ks h (stands t r k) (at-arguments ts rs ks)

-- ---- of what is convertible to a head
many-stays : (E : Env) {t s : Term} → ParMany (contract E) t s → head_step E t ≡ None → head_step E s ≡ None
many-stays E ParMany.pdone h = h
many-stays E (ParMany.pthen {t = t} {s = s} k ks) h = many-stays E ks (stays E t s k h).0

reduces-conv : {E : Env} {t s : Term} → Reduces E t s → Conv E t s
reduces-conv Reduces.done = Conv.same
reduces-conv (Reduces.then h r) = Conv.thence (Conv.by_step h) (reduces-conv r)

leads-head : {E : Env} {t h : Term} → Leads E t h → head_step E h ≡ None → HeadIs E t h
leads-head {E} {t} {h} w k = record {
  bound = w.count;
  made = w.count;
  is = (found E w.count w.count t h).1 (w.toward, k, omega arith);
}

pub head-reached : (E : Env) → BodiesClosed E → (t s : Term) → Conv E t s → IsHead E s → HasHeadLike E t s
head-reached E closed t s c h =
    let m = conv-meet closed c in
    let a = stands E t m.0 (reduces-standard E closed (many-reduces m.1)) (many-stays E m.2 h) in
    let same = Conv.thence (Conv.back (reduces-conv (toward-reduces a.leads.toward))) c in
    let (o, p) = agree E closed a.head s a.is_head h same in
    record { head = a.head; is = leads-head a.leads a.is_head; outlines = o; components = p }
