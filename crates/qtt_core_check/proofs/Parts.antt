-- The parts of an ending with an answer, and what each premise that holds says.
use Rattle.std.proofs.Common.{◌≡◌, ℕ, Bool, true, false, ◌&&◌, cond, eqb, Some, None, refl, sym, ap, subst}
use Rattle.std.proofs.lemmas.Bool.{eqb-true, and_parts}
use Rattle.qtt_base.specs.declared.place.GlobalId.{GlobalId}
use Rattle.qtt_term.specs.Term.{Form, Term, Terms, node, ε, ◌▸◌, size, Sort, Pi, Fam, same_id}
use Rattle.qtt_term.specs.Signature.{Env}
use Rattle.qtt_term.specs.Contraction.{Reduces, Conv}
use Rattle.qtt_term.specs.Judgement.{Ctx}
use Rattle.qtt_term.specs.Ask.{Ask, ◌>>=◌, Ending, Ends, HeadIs}
use Rattle.qtt_term.specs.Infer.{Premise, agree, sort_of, function_of, as_family, family_of}
use Rattle.qtt_term.specs.Forms.{as_sort, Function, as_function}
use Rattle.qtt_term.specs.Premises.{need, found}
use Rattle.qtt_term.proofs.Same.{same_id-is}
use Rattle.qtt_confluence.proofs.Facts.{head_is_exact}

pub record Parts (E : Env) {F P A B : Type 0} (m : Ask F P A) (k : A → Ask F P B) (b : B) : Type 0 where
  pub mid : A
  pub first : Ends E m (Ending.ok mid)
  pub after : Ends E (k mid) (Ending.ok b)

pub parts : {E : Env} {F P A B : Type 0} (m : Ask F P A) (k : A → Ask F P B) (b : B) →
    Ends E (m >>= k) (Ending.ok b) → Parts E m k b
unfolding ◌>>=◌
parts (Ask.done a) k b x = record { mid = a; first = Ends.is_done; after = x }
parts (Ask.fail f) k b x = elim x [ ]
parts (Ask.head p d t g) k b (Ends.has_head {h = h} e x) =
    let r = parts (g h) k b x in record { mid = r.mid; first = Ends.has_head e r.first; after = r.after }
parts (Ask.read p d t g) k b (Ends.has_reading {r = h} e x) =
    let r = parts (g h) k b x in record { mid = r.mid; first = Ends.has_reading e r.first; after = r.after }
parts (Ask.compare p d t s m w) k b (Ends.are_equal e x) =
    let r = parts m k b x in record { mid = r.mid; first = Ends.are_equal e r.first; after = r.after }
parts (Ask.compare p d t s m w) k b (Ends.are_different e x) =
    let r = parts w k b x in record { mid = r.mid; first = Ends.are_different e r.first; after = r.after }

pub ended : {E : Env} {F P A : Type 0} (a b : A) → Ends E {F = F} {P = P} (Ask.done a) (Ending.ok b) → a ≡ b
ended a b Ends.is_done = refl

pub never : {E : Env} {F P A : Type 0} {f : F} {a : A} → Ends E {F = F} {P = P} {A = A} (Ask.fail f) (Ending.ok a) → ⊥
never x = elim x [ ]

-- ---- premises
pub holding : {E : Env} (b : Bool) (p : Premise) (u : Unit {0}) → Ends E {P = Unit {0}} (need b p) (Ending.ok u) →
    b ≡ true
unfolding need
holding true p u x = refl
holding false p u x = elim x [ ]

pub agreeing : {E : Env} (Γ : Ctx) (t s : Term) (p : Premise) (u : Unit {0}) → Ends E (agree Γ t s p) (Ending.ok u) →
    Conv E t s
unfolding agree
agreeing Γ t s p u (Ends.are_equal e x) = e
agreeing Γ t s p u (Ends.are_different e x) = elim x [ ]

reduces-conv : {E : Env} {t s : Term} → Reduces E t s → Conv E t s
reduces-conv Reduces.done = Conv.same
reduces-conv (Reduces.then h r) = Conv.thence (Conv.by_step h) (reduces-conv r)

-- a term is convertible to its head
pub head-conv : {E : Env} {t h : Term} → HeadIs E t h → Conv E t h
head-conv {E} {t} {h} x = reduces-conv (head_is_exact.reduces E x.bound x.made t h x.is)

sort-is : {E : Env} (h : Term) (p : Premise) (l : ℕ) →
    Ends E {P = Unit {0}} (found (as_sort h) p) (Ending.ok l) → h ≡ Sort l
sort-is (node (Form.sort k) ε) p l Ends.is_done = refl
sort-is _ p l x = elim x [ ]

pub sort-found : {E : Env} (Γ : Ctx) (A : Term) (p : Premise) (l : ℕ) → Ends E (sort_of Γ A p) (Ending.ok l) →
    HeadIs E A (Sort l)
unfolding sort_of
sort-found {E} Γ A p l (Ends.has_head {h = h} e x) = subst (HeadIs E A) (sort-is h p l x) e

function-is : {E : Env} (h : Term) (p : Premise) (F : Function) →
    Ends E {P = Unit {0}} (found (as_function h) p) (Ending.ok F) →
    h ≡ Pi F.mult F.domain F.codomain
function-is (node (Form.pi q) (A ▸ B ▸ ε)) p F Ends.is_done = refl
function-is _ p F x = elim x [ ]

pub function-found : {E : Env} (Γ : Ctx) (A : Term) (p : Premise) (F : Function) →
    Ends E (function_of Γ A p) (Ending.ok F) →
    HeadIs E A (Pi F.mult F.domain F.codomain)
unfolding function_of
function-found {E} Γ A p F (Ends.has_head {h = h} e x) = subst (HeadIs E A) (function-is h p F x) e

chosen : {E : Env} (b : Bool) (p : Premise) (ts us : Terms) →
    Ends E {F = Premise} {P = Unit {0}} (found (cond b (Some ts) None) p) (Ending.ok us) → (b ≡ true) × (ts ≡ us)
chosen true p ts us Ends.is_done = (refl, refl)
chosen false p ts us x = elim x [ ]

-- a head is the family f at us, which are n
abbrev pub FamilyIs : GlobalId → ℕ → Terms → Term → Type 0
FamilyIs f n us h = (h ≡ Fam f us) × (size us ≡ n)

family-is : {E : Env} (f : GlobalId) (n : ℕ) (h : Term) (p : Premise) (us : Terms) →
    Ends E {P = Unit {0}} (found (as_family f n h) p) (Ending.ok us) → FamilyIs f n us h
family-is f n (node (Form.fam g) ts) p us x =
    let (e, d) = chosen (same_id f g && eqb (size ts) n) p ts us x in
    let (i, s) = and_parts (same_id f g) (eqb (size ts) n) e in
    subst (λ us. FamilyIs f n us (Fam g ts)) d (ap (λ k. Fam k ts) (sym (same_id-is f g i)), eqb-true (size ts) n s)
family-is f n _ p us x = elim x [ ]

pub record FamilyFound (E : Env) (f : GlobalId) (n : ℕ) (A : Term) (us : Terms) : Type 0 where
  pub head : HeadIs E A (Fam f us)
  pub counted : size us ≡ n

pub family-found : {E : Env} (Γ : Ctx) (f : GlobalId) (n : ℕ) (A : Term) (p : Premise) (us : Terms) →
    Ends E (family_of Γ f n A p) (Ending.ok us) →
    FamilyFound E f n A us
unfolding family_of
family-found {E} Γ f n A p us (Ends.has_head {h = h} e x) =
    let (d, s) = family-is f n h p us x in record { head = subst (HeadIs E A) d e; counted = s }
