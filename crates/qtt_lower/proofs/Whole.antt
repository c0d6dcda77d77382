-- A program as a whole is lowered.
use Rattle.std.proofs.Common.{◌≡◌, ℕ, zero, suc, ◌+◌, ◌-◌, ◌<◌, ◌≤◌, List, [], ◌∷◌, ◌++◌, length, get_or, Contains, ◌⊎◌, inl, inr, Option, Some, None, option_map, Bool, true, false, cond, refl, sym, ◌∙◌, ap, subst, arith}
use Rattle.std.specs.List.{slice_get}
use mathlib.Core.Path.{fun_ext}
use Rattle.std.proofs.lemmas.Bool.{cases_lt}
use Rattle.std.proofs.lemmas.List.{length-map}
use Rattle.std.proofs.lemmas.Option.{slice_get-map}
use Rattle.qtt_base.specs.declared.place.GlobalId.{GlobalId}
use Rattle.qtt_term.specs.Term.{same_id}
use Rattle.qtt_term.specs.Keyed.{with_id}
use Rattle.qtt_term.specs.Signature.{Env}
use Rattle.qtt_term.proofs.Same.{same_id-is, id-same}
use Rattle.qtt_erase.specs.Lean.{Lean}
use Rattle.qtt_erase.specs.Erasure.{erased_bodies}
use Rattle.qtt_closure.specs.Flat as flat
use Rattle.qtt_closure.specs.Flat.{FlatTerm, Function}
use Rattle.qtt_closure.specs.Conversion.{conversion, flat as flat_term, functions}
use Rattle.qtt_closure.specs.StandsFor.{Holds, IsConversion}
use Rattle.qtt_closure.proofs.Starting.{advance, number-after, Scoped, mentioned-below}
use Rattle.qtt_code.specs.Instruction.{Program}
use Rattle.qtt_lower.specs.Lowering.{block}
use Rattle.qtt_lower.specs.Lowerable.{Lowerable, IsBlock}
use Rattle.qtt_lower.specs.Source.{IsSource}
use Rattle.qtt_lower.specs.Programs.{Body, with_body, bodies, numbers_end, functions_from, flat_program, lean_bodies, flat_bodies_from, base_id, block_of, bases_from, bases, entry, lowered, program_from, program}
use Rattle.qtt_lower.specs.Laws.{AreSources, ProgramsAreLowered}
use Rattle.qtt_lower.proofs.Values.{in-first, in-second}
use Rattle.qtt_lower.proofs.Erased.{bodies-are-sources}
use Rattle.qtt_lower.proofs.Converted.{flat-lowerable, AreLowerable, functions-lowerable}

-- ---- numbers
advance-length : (n : ℕ) (Fs : List Function) → advance n Fs ≡ n + length Fs
advance-length n [] = omega arith
advance-length n (F ∷ Fs) = let h = advance-length (suc n) Fs in omega (arith, h)

functions-end : (n : ℕ) (t : Lean) → n + length (conversion n t) ≡ numbers_end n t
functions-end n t =
    let h = number-after t (suc n) [] in
    let k = advance-length (suc n) (functions (suc n) [] t) in
    omega (arith, h, k)

-- ---- what stands at the numbers from n on
abbrev Has : {A : Type 0} → (ℕ → Option A) → ℕ → List A → Type 0
Has {A} P n xs = (k : ℕ) (x : A) → slice_get xs k ≡ Some x → P (n + k) ≡ Some x

has-left : {A : Type 0} (P : ℕ → Option A) (n : ℕ) (xs ys : List A) → Has P n (xs ++ ys) → Has P n xs
has-left P n [] ys h k x e = absurd (cc e)
has-left P n (z ∷ xs) ys h zero x e = h zero x e
has-left P n (z ∷ xs) ys h (suc k) x e = h (suc k) x (left xs k e)
  where
    left : (xs : _) (k : ℕ) → slice_get xs k ≡ Some x → slice_get (xs ++ ys) k ≡ Some x
    left [] k e = absurd (cc e)
    left (w ∷ xs) zero e = e
    left (w ∷ xs) (suc k) e = left xs k e

has-right : {A : Type 0} (P : ℕ → Option A) (n m : ℕ) (xs ys : List A) → n + length xs ≡ m → Has P n (xs ++ ys) →
    Has P m ys
has-right P n m xs ys z h k x e =
    ap P (let w : m + k ≡ n + (length xs + k) = omega (arith, z) in w)
    ∙ h (length xs + k) x (in-second xs ys (length xs + k) (omega arith) ∙ ap (slice_get ys)
    (let w : length xs + k - length xs ≡ k = omega arith in w) ∙ e)

has-holds : (P : flat.Program) (n : ℕ) (Fs : List Function) → Has P n Fs → Holds P n Fs
has-holds P n [] h = tt
has-holds P n (F ∷ Fs) h = (
  ap P (let w : n ≡ n + 0 = omega arith in w) ∙ h 0 F refl,
  has-holds P (suc n) Fs (λ k x e. ap P (let w : suc n + k ≡ n + suc k = omega arith in w) ∙ h (suc k) x e),
)

-- ---- each function's block, and that its body is lowerable
abbrev OnFunction : Option Function → Type 0
OnFunction None = Unit {0}
OnFunction (Some F) = Lowerable (F.captured + F.takes) F.body

lowerable-at : (Fs : List Function) → AreLowerable Fs → (k : ℕ) (F : Function) → slice_get Fs k ≡ Some F →
    Lowerable (F.captured + F.takes) F.body
lowerable-at [] h k F e = absurd (cc e)
lowerable-at (G ∷ Fs) h zero F e = subst (λ o. OnFunction o) e h.0
lowerable-at (G ∷ Fs) h (suc k) F e = lowerable-at Fs h.1 k F e

source-scoped : (t : Lean) → IsSource t → Scoped [] t
source-scoped t s i e = let p = mentioned-below t 0 i s.closed e in absurd (omega arith)

source-lowerable : (n : ℕ) (t : Lean) → IsSource t → AreLowerable (conversion n t)
source-lowerable n t s = (
  flat-lowerable t (suc n) [] s.formed s.plain (source-scoped t s),
  functions-lowerable t (suc n) [] s.formed s.plain (source-scoped t s),
)

module _ (e : GlobalId → ℕ) where
  blocks-of : (n : ℕ) (bs : List Body) → AreSources bs →
      (k : ℕ) (F : Function) → slice_get (functions_from n bs) k ≡ Some F → IsBlock e (program_from e n bs) k F
  blocks-of n [] s k F h = absurd (cc h)
  blocks-of n (b ∷ bs) s k F h = elim (cases_lt k (length (conversion n b.term))) [
    | inl p ↦
        let f = sym (in-first (conversion n b.term) (functions_from (numbers_end n b.term) bs) k p) ∙ h in (
          b.id,
          in-first (lowered e n b) (program_from e (numbers_end n b.term) bs) k
              (subst (λ m. k < m) (sym (length-map (conversion n b.term) (block e b.id))) p)
              ∙ slice_get-map (block e b.id) (conversion n b.term) k ∙ ap (option_map (block e b.id)) f,
          lowerable-at (conversion n b.term) (source-lowerable n b.term s.0) k F f,
        )
    | inr q ↦
        let f = sym (in-second (conversion n b.term) (functions_from (numbers_end n b.term) bs) k q) ∙ h in
        let r = blocks-of (numbers_end n b.term) bs s.1 (k - length (conversion n b.term)) F f in (
          r.0,
          in-second (lowered e n b) (program_from e (numbers_end n b.term) bs) k
              (subst (λ m. m ≤ k) (sym (length-map (conversion n b.term) (block e b.id))) q)
              ∙ ap (λ m. slice_get (program_from e (numbers_end n b.term) bs) (k - m))
              (length-map (conversion n b.term) (block e b.id)) ∙ r.1,
          r.2,
        )
  ]

  -- ---- definitions
  abbrev IsDefined : Program → Option FlatTerm → ℕ → Type 0
  IsDefined C None n = Unit {0}
  IsDefined C (Some u) n = IsBlock e C n (record { captured = 0; takes = 0; body = u })

  definitions-of : (C : Program) (n : ℕ) (bs : List Body) → AreSources bs →
      Has (slice_get C) n (program_from e n bs) → (d : GlobalId) →
      IsDefined C (flat_bodies_from n bs d) (block_of (with_id base_id d (bases_from n bs)))
  definitions-of C n [] s h d = tt
  definitions-of C n (b ∷ bs) s h d = tested (same_id b.id d) (definitions-of C (numbers_end n b.term) bs s.1 later d)
    where
      later : Has (slice_get C) (numbers_end n b.term) (program_from e (numbers_end n b.term) bs)
      later = has-right (slice_get C) n (numbers_end n b.term) (lowered e n b)
          (program_from e (numbers_end n b.term) bs)
          (ap (λ m. n + m) (length-map (conversion n b.term) (block e b.id)) ∙ functions-end n b.term) h

      own : IsDefined C (Some (flat_term (suc n) [] b.term)) n
      own = (
        b.id,
        ap (slice_get C) (let w : n ≡ n + 0 = omega arith in w) ∙ has-left (slice_get C) n (lowered e n b)
            (program_from e (numbers_end n b.term) bs) h 0 _ refl,
        flat-lowerable b.term (suc n) [] s.0.formed s.0.plain (source-scoped b.term s.0),
      )

      tested : (x : Bool) → IsDefined C (flat_bodies_from (numbers_end n b.term) bs d)
          (block_of (with_id base_id d (bases_from (numbers_end n b.term) bs))) →
          IsDefined C (cond x (Some (flat_term (suc n) [] b.term)) (flat_bodies_from (numbers_end n b.term) bs d))
          (block_of (cond x (Some (record { id = b.id; block = n }))
          (with_id base_id d (bases_from (numbers_end n b.term) bs))))
      tested true r = own
      tested false r = r

conversions-of : (P : flat.Program) (n : ℕ) (bs : List Body) → AreSources bs → Has P n (functions_from n bs) →
    (d : GlobalId) →
    IsConversion P (lean_bodies bs d) (flat_bodies_from n bs d)
conversions-of P n [] s h d = refl
conversions-of P n (b ∷ bs) s h d = tested (same_id b.id d) (conversions-of P (numbers_end n b.term) bs s.1 later d)
  where
    later : Has P (numbers_end n b.term) (functions_from (numbers_end n b.term) bs)
    later = has-right P n (numbers_end n b.term) (conversion n b.term) (functions_from (numbers_end n b.term) bs)
        (functions-end n b.term) h

    here : Has P n (conversion n b.term)
    here = has-left P n (conversion n b.term) (functions_from (numbers_end n b.term) bs) h

    held : Holds P (suc n) (functions (suc n) [] b.term)
    held = has-holds P (suc n) (functions (suc n) [] b.term)
        (λ k x f. ap P (let w : suc n + k ≡ n + suc k = omega arith in w) ∙ here (suc k) x f)

    tested : (x : Bool) → IsConversion P (lean_bodies bs d) (flat_bodies_from (numbers_end n b.term) bs d) →
        IsConversion P (cond x (Some b.term) (lean_bodies bs d))
        (cond x (Some (flat_term (suc n) [] b.term)) (flat_bodies_from (numbers_end n b.term) bs d))
    tested true r = (suc n, refl, record { formed = s.0.formed; closed = s.0.closed; held = held })
    tested false r = r

-- ---- the erased bodies of an environment
found-or-none : (E : Env) (ds : List GlobalId) (d : GlobalId) →
    (lean_bodies (bodies E ds) d ≡ erased_bodies E d) ⊎ (lean_bodies (bodies E ds) d ≡ None)
found-or-none E [] d = inr refl
found-or-none E (c ∷ ds) d = body (erased_bodies E c) refl (found-or-none E ds d)
  where
    tested : (t : Lean) (x : Bool) → erased_bodies E c ≡ Some t → same_id c d ≡ x →
        (lean_bodies (bodies E ds) d ≡ erased_bodies E d) ⊎ (lean_bodies (bodies E ds) d ≡ None) →
        (cond x (Some t) (lean_bodies (bodies E ds) d) ≡ erased_bodies E d) ⊎
        (cond x (Some t) (lean_bodies (bodies E ds) d) ≡ None)
    tested t true q z r = inl (sym q ∙ ap (erased_bodies E) (same_id-is c d z))
    tested t false q z r = r

    body : (o : Option Lean) → erased_bodies E c ≡ o →
        (lean_bodies (bodies E ds) d ≡ erased_bodies E d) ⊎ (lean_bodies (bodies E ds) d ≡ None) →
        (lean_bodies (with_body c o (bodies E ds)) d ≡ erased_bodies E d) ⊎
        (lean_bodies (with_body c o (bodies E ds)) d ≡ None)
    body None q r = r
    body (Some t) q r = tested t (same_id c d) q refl r

first-found : (E : Env) (c : GlobalId) (ds : List GlobalId) (d : GlobalId) → c ≡ d →
    (o : Option Lean) → erased_bodies E c ≡ o →
    lean_bodies (with_body c o (bodies E ds)) d ≡ erased_bodies E d
first-found E c ds d h None q = elim (found-or-none E ds d) [ inl p ↦ p | inr p ↦ p ∙ sym q ∙ ap (erased_bodies E) h ]
first-found E c ds d h (Some t) q =
    ap (λ b. cond b (Some t) (lean_bodies (bodies E ds) d)) (subst (λ x. same_id c x ≡ true) h (id-same c)) ∙
    sym q ∙ ap (erased_bodies E) h

later-found : (E : Env) (c : GlobalId) (ds : List GlobalId) (d : GlobalId) (o : Option Lean) →
    erased_bodies E c ≡ o → lean_bodies (bodies E ds) d ≡ erased_bodies E d →
    lean_bodies (with_body c o (bodies E ds)) d ≡ erased_bodies E d
later-found E c ds d None q r = r
later-found E c ds d (Some t) q r = tested (same_id c d) refl
  where
    tested : (x : Bool) → same_id c d ≡ x → cond x (Some t) (lean_bodies (bodies E ds) d) ≡ erased_bodies E d
    tested true z = sym q ∙ ap (erased_bodies E) (same_id-is c d z)
    tested false z = r

bodies-found : (E : Env) (ds : List GlobalId) (d : GlobalId) (k : ℕ) → k < length ds → get_or ds k d ≡ d →
    lean_bodies (bodies E ds) d ≡ erased_bodies E d
bodies-found E [] d k h g = absurd (omega (arith, h))
bodies-found E (c ∷ ds) d zero h g = first-found E c ds d g (erased_bodies E c) refl
bodies-found E (c ∷ ds) d (suc k) h g =
    later-found E c ds d (erased_bodies E c) refl (bodies-found E ds d k (omega (arith, h)) g)

all-found : (E : Env) (ds : List GlobalId) →
    ((d : GlobalId) (t : Lean) → erased_bodies E d ≡ Some t → Contains ds d) →
    lean_bodies (bodies E ds) ≡ erased_bodies E
all-found E ds h = fun_ext (λ d. at d (erased_bodies E d) refl)
  where
    at : (d : GlobalId) (o : Option Lean) → erased_bodies E d ≡ o → lean_bodies (bodies E ds) d ≡ erased_bodies E d
    at d None q = elim (found-or-none E ds d) [ inl p ↦ p | inr p ↦ p ∙ sym q ]
    at d (Some t) q = let k = h d t q in bodies-found E ds d k.0 k.1 k.2

pub programs-are-lowered : ProgramsAreLowered
programs-are-lowered = record {
  conversions = λ bs s d. conversions-of (flat_program bs) 0 bs s
      (λ k x h. ap (slice_get (functions_from 0 bs)) (let w : 0 + k ≡ k = omega arith in w) ∙ h) d;
  blocks = λ bs s. record {
    functions = λ n F h. blocks-of (entry (bases bs)) 0 bs s n F h;
    definitions = λ d u h. subst (λ o. IsDefined (entry (bases bs)) (program bs) o (entry (bases bs) d)) h
        (definitions-of (entry (bases bs)) (program bs) 0 bs s
        (λ k x g. ap (slice_get (program bs)) (let w : 0 + k ≡ k = omega arith in w) ∙ g) d);
  };
  sources = λ E h ds. bodies-are-sources E h ds;
  erased = all-found;
}
