-- The tests of equality are exact: each answers true at equal things, and at these alone.
use Rattle.std.proofs.Common.{◌≡◌, ℕ, List, [], ◌∷◌, Bool, true, eqb, ◌&&◌, refl, ap, subst}
use Rattle.std.specs.Bool.{Decides}
use Rattle.std.proofs.lemmas.Bool.{eq-eqb, eqb-true, and_parts, and_from}
use Rattle.std.proofs.lemmas.Bool.Decides.{Decides-int_eq}
use Rattle.std.proofs.lemmas.Slice.Eq.{bytes_eq-Decides}
use mathlib.Core.Path.{ap₂}
use Rattle.qtt_base.specs.declared.place.GlobalId.{GlobalId}
use Rattle.qtt_usage.specs.declared.mult.Mult.{Mult}
use Rattle.qtt_usage.specs.Mult.{same_mult, 𝟘, 𝟙, ω}
use Rattle.qtt_prims.specs.declared.prim.Primitive.{Primitive}
use Rattle.qtt_prims.specs.declared.prim.Primitive.TheVariants as prim
use Rattle.qtt_prims.specs.declared.lit.Lit.{Lit}
use Rattle.qtt_prims.specs.declared.lit.Lit.TheVariants as literal
use Rattle.qtt_term.specs.Term.{Io, PrimTy, Action, Named, Form, Term, Terms, var, node, ε, ◌▸◌, same_id}
use Rattle.qtt_term.specs.Question.{same_io, same_prim_ty, same_prim, same_action, same_lit, same_named, same_counts, same_form, same, sames}

-- from a test that answers true at equal things alone, and at each thing and itself
decided : {A : Type 0} (test : A → A → Bool) → ((a b : A) → test a b ≡ true → a ≡ b) → ((a : A) → test a a ≡ true) →
    (a b : A) → Decides (test a b) (a ≡ b)
decided test is itself a b = (is a b, λ e. subst (λ c. test a c ≡ true) e (itself a))

-- ---- multiplicities and ids
pub same_mult-is : (q r : Mult) → same_mult q r ≡ true → q ≡ r
same_mult-is 𝟘 𝟘 e = refl
same_mult-is 𝟙 𝟙 e = refl
same_mult-is ω ω e = refl
same_mult-is _ _ e = absurd (cc e)

pub mult-same : (q : Mult) → same_mult q q ≡ true
mult-same 𝟘 = refl
mult-same 𝟙 = refl
mult-same ω = refl

pub same_id-is : (f g : GlobalId) → same_id f g ≡ true → f ≡ g
same_id-is f g e =
    let p = and_parts (eqb f.module.0 g.module.0) (eqb f.item g.item) e in
    ap₂ (λ m i. record { «module» = record { 0 = m }; item = i }) (eqb-true f.module.0 g.module.0 p.0)
    (eqb-true f.item g.item p.1)

pub id-same : (f : GlobalId) → same_id f f ≡ true
id-same f = and_from (eqb f.module.0 f.module.0) (eqb f.item f.item) (eq-eqb f.module.0 f.module.0 refl)
    (eq-eqb f.item f.item refl)

pub same_id-exact : (f g : GlobalId) → Decides (same_id f g) (f ≡ g)
same_id-exact f g = decided same_id same_id-is id-same f g

-- ---- what is named
same_io-is : (m n : Io) → same_io m n ≡ true → m ≡ n
same_io-is Io.io Io.io e = refl
same_io-is Io.io1 Io.io1 e = refl
same_io-is _ _ e = absurd (cc e)

io-same : (m : Io) → same_io m m ≡ true
io-same Io.io = refl
io-same Io.io1 = refl

pub same_io-exact : (m n : Io) → Decides (same_io m n) (m ≡ n)
same_io-exact m n = decided same_io same_io-is io-same m n

same_prim_ty-is : (p r : PrimTy) → same_prim_ty p r ≡ true → p ≡ r
same_prim_ty-is PrimTy.int PrimTy.int e = refl
same_prim_ty-is PrimTy.string PrimTy.string e = refl
same_prim_ty-is PrimTy.handle PrimTy.handle e = refl
same_prim_ty-is (PrimTy.io_of m) (PrimTy.io_of n) e = ap PrimTy.io_of (same_io-is m n e)
same_prim_ty-is _ _ e = absurd (cc e)

prim_ty-same : (p : PrimTy) → same_prim_ty p p ≡ true
prim_ty-same PrimTy.int = refl
prim_ty-same PrimTy.string = refl
prim_ty-same PrimTy.handle = refl
prim_ty-same (PrimTy.io_of m) = io-same m

pub same_prim_ty-exact : (p r : PrimTy) → Decides (same_prim_ty p r) (p ≡ r)
same_prim_ty-exact p r = decided same_prim_ty same_prim_ty-is prim_ty-same p r

same_prim-is : (p r : Primitive) → same_prim p r ≡ true → p ≡ r
same_prim-is prim.AddInt prim.AddInt e = refl
same_prim-is prim.SubInt prim.SubInt e = refl
same_prim-is prim.MulInt prim.MulInt e = refl
same_prim-is prim.DivInt prim.DivInt e = refl
same_prim-is prim.ModInt prim.ModInt e = refl
same_prim-is prim.EqInt prim.EqInt e = refl
same_prim-is prim.LtInt prim.LtInt e = refl
same_prim-is prim.AppendString prim.AppendString e = refl
same_prim-is prim.EqString prim.EqString e = refl
same_prim-is prim.ShowInt prim.ShowInt e = refl
same_prim-is _ _ e = absurd (cc e)

prim-same : (p : Primitive) → same_prim p p ≡ true
prim-same prim.AddInt = refl
prim-same prim.SubInt = refl
prim-same prim.MulInt = refl
prim-same prim.DivInt = refl
prim-same prim.ModInt = refl
prim-same prim.EqInt = refl
prim-same prim.LtInt = refl
prim-same prim.AppendString = refl
prim-same prim.EqString = refl
prim-same prim.ShowInt = refl

pub same_prim-exact : (p r : Primitive) → Decides (same_prim p r) (p ≡ r)
same_prim-exact p r = decided same_prim same_prim-is prim-same p r

same_action-is : (a b : Action) → same_action a b ≡ true → a ≡ b
same_action-is (Action.pure m) (Action.pure n) e = ap Action.pure (same_io-is m n e)
same_action-is (Action.bind m n) (Action.bind k l) e =
    let p = and_parts (same_io m k) (same_io n l) e in ap₂ Action.bind (same_io-is m k p.0) (same_io-is n l p.1)
same_action-is Action.put_line Action.put_line e = refl
same_action-is Action.get_line Action.get_line e = refl
same_action-is Action.opens Action.opens e = refl
same_action-is Action.writes Action.writes e = refl
same_action-is Action.closes Action.closes e = refl
same_action-is _ _ e = absurd (cc e)

action-same : (a : Action) → same_action a a ≡ true
action-same (Action.pure m) = io-same m
action-same (Action.bind m n) = and_from (same_io m m) (same_io n n) (io-same m) (io-same n)
action-same Action.put_line = refl
action-same Action.get_line = refl
action-same Action.opens = refl
action-same Action.writes = refl
action-same Action.closes = refl

pub same_action-exact : (a b : Action) → Decides (same_action a b) (a ≡ b)
same_action-exact a b = decided same_action same_action-is action-same a b

same_lit-is : (l k : Lit) → same_lit l k ≡ true → l ≡ k
same_lit-is (literal.Int a) (literal.Int b) e = ap literal.Int ((Decides-int_eq a b).0 e)
same_lit-is (literal.Text a) (literal.Text b) e = ap literal.Text ((bytes_eq-Decides a b).0 e)
same_lit-is _ _ e = absurd (cc e)

lit-same : (l : Lit) → same_lit l l ≡ true
lit-same (literal.Int a) = (Decides-int_eq a a).1 refl
lit-same (literal.Text a) = (bytes_eq-Decides a a).1 refl

pub same_lit-exact : (l k : Lit) → Decides (same_lit l k) (l ≡ k)
same_lit-exact l k = decided same_lit same_lit-is lit-same l k

same_named-is : (m n : Named) → same_named m n ≡ true → m ≡ n
same_named-is (Named.def d) (Named.def e) h = ap Named.def (same_id-is d e h)
same_named-is (Named.lit l) (Named.lit k) h = ap Named.lit (same_lit-is l k h)
same_named-is (Named.prim_ty p) (Named.prim_ty r) h = ap Named.prim_ty (same_prim_ty-is p r h)
same_named-is (Named.prim p) (Named.prim r) h = ap Named.prim (same_prim-is p r h)
same_named-is (Named.act a k) (Named.act b l) h =
    let p = and_parts (same_action a b) (eqb k l) h in ap₂ Named.act (same_action-is a b p.0) (eqb-true k l p.1)
same_named-is _ _ h = absurd (cc h)

named-same : (n : Named) → same_named n n ≡ true
named-same (Named.def d) = id-same d
named-same (Named.lit l) = lit-same l
named-same (Named.prim_ty p) = prim_ty-same p
named-same (Named.prim p) = prim-same p
named-same (Named.act a k) = and_from (same_action a a) (eqb k k) (action-same a) (eq-eqb k k refl)

pub same_named-exact : (m n : Named) → Decides (same_named m n) (m ≡ n)
same_named-exact m n = decided same_named same_named-is named-same m n

-- ---- forms
same_counts-are : (ms ns : List ℕ) → same_counts ms ns ≡ true → ms ≡ ns
same_counts-are [] [] e = refl
same_counts-are (m ∷ ms) (n ∷ ns) e =
    let p = and_parts (eqb m n) (same_counts ms ns) e in ap₂ ◌∷◌ (eqb-true m n p.0) (same_counts-are ms ns p.1)
same_counts-are [] (n ∷ ns) e = absurd (cc e)
same_counts-are (m ∷ ms) [] e = absurd (cc e)

counts-same : (ns : List ℕ) → same_counts ns ns ≡ true
counts-same [] = refl
counts-same (n ∷ ns) = and_from (eqb n n) (same_counts ns ns) (eq-eqb n n refl) (counts-same ns)

pub same_counts-exact : (ms ns : List ℕ) → Decides (same_counts ms ns) (ms ≡ ns)
same_counts-exact ms ns = decided same_counts same_counts-are counts-same ms ns

pub form-is : (F G : Form) → same_form F G ≡ true → F ≡ G
unfolding same_form
form-is (Form.sort l) (Form.sort k) e = ap Form.sort (eqb-true l k e)
form-is (Form.pi q) (Form.pi r) e = ap Form.pi (same_mult-is q r e)
form-is (Form.lam q) (Form.lam r) e = ap Form.lam (same_mult-is q r e)
form-is (Form.app q) (Form.app r) e = ap Form.app (same_mult-is q r e)
form-is (Form.fam f) (Form.fam g) e = ap Form.fam (same_id-is f g e)
form-is (Form.con f c k) (Form.con g d l) e =
    let a = and_parts (same_id f g) (eqb c d && eqb k l) e in
    let b = and_parts (eqb c d) (eqb k l) a.1 in
    let h : f ≡ g = same_id-is f g a.0 in
    let i : c ≡ d = eqb-true c d b.0 in
    let j : k ≡ l = eqb-true k l b.1 in
    cc (h, i, j)
form-is (Form.case q f k m ms) (Form.case r g l n ns) e =
    let a = and_parts (same_mult q r) (same_id f g && (eqb k l && (eqb m n && same_counts ms ns))) e in
    let b = and_parts (same_id f g) (eqb k l && (eqb m n && same_counts ms ns)) a.1 in
    let c = and_parts (eqb k l) (eqb m n && same_counts ms ns) b.1 in
    let d = and_parts (eqb m n) (same_counts ms ns) c.1 in
    let h : q ≡ r = same_mult-is q r a.0 in
    let i : f ≡ g = same_id-is f g b.0 in
    let j : k ≡ l = eqb-true k l c.0 in
    let x : m ≡ n = eqb-true m n d.0 in
    let y : ms ≡ ns = same_counts-are ms ns d.1 in
    cc (h, i, j, x, y)
form-is (Form.delete q) (Form.delete r) e = ap Form.delete (same_mult-is q r e)
form-is (Form.named m) (Form.named n) e = ap Form.named (same_named-is m n e)
form-is Form.trap Form.trap e = refl
form-is (Form.tape m) (Form.tape n) e = ap Form.tape (eqb-true m n e)
form-is _ _ e = absurd (cc e)

pub form-same : (F : Form) → same_form F F ≡ true
unfolding same_form
form-same (Form.sort l) = eq-eqb l l refl
form-same (Form.pi q) = mult-same q
form-same (Form.lam q) = mult-same q
form-same (Form.app q) = mult-same q
form-same (Form.fam f) = id-same f
form-same (Form.con f c k) =
    and_from (same_id f f) (eqb c c && eqb k k) (id-same f)
    (and_from (eqb c c) (eqb k k) (eq-eqb c c refl) (eq-eqb k k refl))
form-same (Form.case q f k m ns) =
    and_from (same_mult q q) (same_id f f && (eqb k k && (eqb m m && same_counts ns ns))) (mult-same q)
    (and_from (same_id f f) (eqb k k && (eqb m m && same_counts ns ns)) (id-same f)
    (and_from (eqb k k) (eqb m m && same_counts ns ns) (eq-eqb k k refl)
    (and_from (eqb m m) (same_counts ns ns) (eq-eqb m m refl) (counts-same ns))))
form-same (Form.delete q) = mult-same q
form-same (Form.named n) = named-same n
form-same Form.trap = refl
form-same (Form.tape n) = eq-eqb n n refl

pub same_form-exact : (F G : Form) → Decides (same_form F G) (F ≡ G)
same_form-exact F G = decided same_form form-is form-same F G

-- ---- terms
mutual
  pub same-is : (t s : Term) → same t s ≡ true → t ≡ s
  same-is (var i) (var j) e = ap var (eqb-true i j e)
  same-is (node F ts) (node G ss) e =
      let p = and_parts (same_form F G) (sames ts ss) e in ap₂ node (form-is F G p.0) (sames-are ts ss p.1)
  same-is (var i) (node G ss) e = absurd (cc e)
  same-is (node F ts) (var j) e = absurd (cc e)

  pub sames-are : (ts ss : Terms) → sames ts ss ≡ true → ts ≡ ss
  sames-are ε ε e = refl
  sames-are (t ▸ ts) (s ▸ ss) e =
      let p = and_parts (same t s) (sames ts ss) e in ap₂ ◌▸◌ (same-is t s p.0) (sames-are ts ss p.1)
  sames-are ε (s ▸ ss) e = absurd (cc e)
  sames-are (t ▸ ts) ε e = absurd (cc e)

mutual
  pub term-same : (t : Term) → same t t ≡ true
  term-same (var i) = eq-eqb i i refl
  term-same (node F ts) = and_from (same_form F F) (sames ts ts) (form-same F) (terms-same ts)

  pub terms-same : (ts : Terms) → sames ts ts ≡ true
  terms-same ε = refl
  terms-same (t ▸ ts) = and_from (same t t) (sames ts ts) (term-same t) (terms-same ts)

pub same-exact : (t s : Term) → Decides (same t s) (t ≡ s)
same-exact t s = decided same same-is term-same t s

pub sames-exact : (ts ss : Terms) → Decides (sames ts ss) (ts ≡ ss)
sames-exact ts ss = decided sames sames-are terms-same ts ss
