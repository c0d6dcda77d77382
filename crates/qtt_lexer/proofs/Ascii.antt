-- What ASCII characters are for names.
use Rattle.std.proofs.Common.{◌≡◌, ℕ, ◌<◌, ◌==◌, ◌||◌, ◌⊎◌, inl, inr, Bool, true, false, List, refl, sym, ap, ◌∙◌, arith}
use Rattle.std.proofs.lemmas.Bool.Decides.{nat_tests, eqb_tells}
use Rattle.std.proofs.lemmas.Bool.{eqb-true}
use Rattle.std.specs.Char.{is_ascii_alphabetic, is_ascii_alphanumeric, is_ascii_digit}
use Rattle.unicode_ident.proofs.IdentLemmas.{is_xid_start-ascii, is_xid_continue-ascii, is_xid_start-is_xid_continue}
use Rattle.unicode_ident.specs.Ident.{is_xid_start}
use Rattle.qtt_lexer.specs.Characters.{begins_part, continues_part}
use Rattle.qtt_lexer.specs.Piece.{front_of}
use Rattle.qtt_lexer.specs.declared.front.Front.TheVariants as front

pub begins_part-ascii : (c : ℕ) → c < 128 → begins_part c ≡ (is_ascii_alphabetic c || (c == 95))
begins_part-ascii c h = ap (λ (b : Bool). b || (c == 95)) (is_xid_start-ascii c h)

digit_range : (c : ℕ) → is_ascii_digit c ≡ true → c < 128
digit_range c h = grind (arith, nat_tests)

no_letter : (c : ℕ) → is_ascii_digit c ≡ true → (is_ascii_alphabetic c || (c == 95)) ≡ false
no_letter c h = grind (arith, nat_tests)

pub begins_part-digit : (c : ℕ) → is_ascii_digit c ≡ true → begins_part c ≡ false
begins_part-digit c h = begins_part-ascii c (digit_range c h) ∙ no_letter c h

continues_by : (b : Bool) (c : ℕ) → is_xid_start c ≡ b → (b || (c == 95)) ≡ true → continues_part c ≡ true
continues_by true c e h = ap (λ (b : Bool). b || (c == 39)) (is_xid_start-is_xid_continue c e)
continues_by false c e h =
    let is : c ≡ 95 = eqb-true c 95 h in
    ap continues_part is ∙ ap (λ (b : Bool). b || (95 == 39)) (is_xid_continue-ascii 95 (omega arith))

pub continues_part-ascii : (c : ℕ) → c < 128 → continues_part c ≡ ((is_ascii_alphanumeric c || (c == 95)) || (c == 39))
continues_part-ascii c h = ap (λ (b : Bool). b || (c == 39)) (is_xid_continue-ascii c h)

-- what begins a part may also continue one
pub continues_part-begins : (c : ℕ) → begins_part c ≡ true → continues_part c ≡ true
continues_part-begins c h = continues_by (is_xid_start c) c refl h

unlike_by : (c k : ℕ) → (((c == k) ≡ true) × (c ≡ k)) ⊎ (((c == k) ≡ false) × (c ≡ k → ⊥)) →
    begins_part k ≡ false → begins_part c ≡ true → (c == k) ≡ false
unlike_by c k (inl e) other h = absurd (let f = sym h ∙ ap begins_part e.1 ∙ other in cc)
unlike_by c k (inr e) other h = e.0

unlike : (c k : ℕ) → k < 128 → (is_ascii_alphabetic k || (k == 95)) ≡ false → begins_part c ≡ true → (c == k) ≡ false
unlike c k lt other h = unlike_by c k (eqb_tells c k) (begins_part-ascii k lt ∙ other) h

-- what begins a part begins a name
pub front_of-name : (c : ℕ) (cs : List ℕ) → begins_part c ≡ true → front_of c cs ≡ front.Name
front_of-name c cs h =
    rw (
      unlike c 32 (omega arith) refl h,
      unlike c 9 (omega arith) refl h,
      unlike c 10 (omega arith) refl h,
      unlike c 13 (omega arith) refl h,
      unlike c 45 (omega arith) refl h,
      unlike c 123 (omega arith) refl h,
      unlike c 34 (omega arith) refl h,
      unlike c 63 (omega arith) refl h,
      h,
    ) refl

digit_unlike_by : (c k : ℕ) → (((c == k) ≡ true) × (c ≡ k)) ⊎ (((c == k) ≡ false) × (c ≡ k → ⊥)) →
    is_ascii_digit k ≡ false → is_ascii_digit c ≡ true → (c == k) ≡ false
digit_unlike_by c k (inl e) other h = absurd (let f = sym h ∙ ap is_ascii_digit e.1 ∙ other in cc)
digit_unlike_by c k (inr e) other h = e.0

digit_unlike : (c k : ℕ) → is_ascii_digit k ≡ false → is_ascii_digit c ≡ true → (c == k) ≡ false
digit_unlike c k other h = digit_unlike_by c k (eqb_tells c k) other h

-- a digit begins a number
pub front_of-number : (c : ℕ) (cs : List ℕ) → is_ascii_digit c ≡ true → front_of c cs ≡ front.Number
front_of-number c cs h =
    let no = begins_part-digit c h in
    rw (
      digit_unlike c 32 refl h,
      digit_unlike c 9 refl h,
      digit_unlike c 10 refl h,
      digit_unlike c 13 refl h,
      digit_unlike c 45 refl h,
      digit_unlike c 123 refl h,
      digit_unlike c 34 refl h,
      digit_unlike c 63 refl h,
      no,
      h,
    ) refl
