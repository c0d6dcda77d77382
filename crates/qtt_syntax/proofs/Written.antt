-- Texts that grow by words.
use Rattle.std.proofs.Common.{◌≡◌, ℕ, suc, ◌+◌, ◌<◌, List, [], ◌∷◌, ◌++◌, length, get_or, drop, refl, sym, ap, ◌∙◌, append_assoc, add-one, arith, drop-cons, Bool, true, false, codes, ◌⊎◌, inl, inr, take, cond, length-drop, ◌-◌}
use Rattle.std.proofs.lemmas.List.{append-nil}
use Rattle.std.proofs.Math.Seq.{take-length}
use Rattle.qtt_syntax.specs.Words.{Printed, written, written_as}
use Rattle.qtt_syntax.specs.Tree.{Tree, Statements, Shape, Param, Con, shapes}
use Rattle.qtt_syntax.specs.Tree.Shape.{constructor}
use Rattle.qtt_syntax.specs.Tree.Item.{family}
use Rattle.qtt_syntax.specs.declared.expr.Named.{Named}
use Rattle.qtt_base.specs.declared.place.Span.{Span}
use Rattle.qtt_syntax.specs.Tree.Statements.{no_statement, statement_and}
use Rattle.qtt_syntax.specs.Words.Printed.{word, blank}
use Rattle.qtt_syntax.specs.Words.Word.{type_at, named}
use Rattle.qtt_syntax.specs.Printing.{atom, bracketed, is_atom, is_level_0, is_arrow, is_app, domain, in_brackets, binding, braced, begins_negative, broken, ends_open, key, let_name, let_head, parted, statements, more_statements, pattern, patterns, params, cons, more_cons, expr, item}
use Rattle.qtt_syntax.specs.declared.expr.Mark.{Mark}
use Rattle.qtt_syntax.specs.declared.expr.Mark.TheVariants.{Written, Braced, Inserted}
use Rattle.qtt_usage.specs.declared.mult.Mult.{Mult}

pub written-append : (ps qs : List Printed) → written (ps ++ qs) ≡ written ps ++ written qs
written-append [] qs = refl
written-append (p ∷ ps) qs =
    ap (λ (v : List ℕ). written_as p ++ v) (written-append ps qs) ∙
    sym (append_assoc (written_as p) (written ps) (written qs))

-- a loop that writes one more of a list
pub one_more : {X : Type 0} (F : List X → List ℕ) (xs : List X) (i : ℕ) (x : X) (start before after g : List ℕ) →
    i < length xs → x ≡ get_or xs i x → F (x ∷ drop (i + 1) xs) ≡ g ++ F (drop (i + 1) xs) →
    before ++ F (drop i xs) ≡ start ++ F xs → after ≡ before ++ g → after ++ F (drop (i + 1) xs) ≡ start ++ F xs
one_more F xs i x start before after g h e step inv grows =
    let here : drop i xs ≡ x ∷ drop (i + 1) xs =
    rw add-one (drop-cons xs i x h ∙ ap (λ (y : _). y ∷ drop (suc i) xs) (sym e)) in
    rw grows (append_assoc before g (F (drop (i + 1) xs)) ∙ ap (λ (v : List ℕ). before ++ v) (sym step) ∙
    ap (λ (v : List _). before ++ F v) (sym here) ∙ inv)

-- behind the last one
pub no_more : {X : Type 0} (F : List X → List ℕ) (xs : List X) (start now : List ℕ) → F [] ≡ [] →
    now ++ F (drop (length xs) xs) ≡ start ++ F xs → now ≡ start ++ F xs
no_more F xs start now e inv =
    sym (append-nil now) ∙ ap (λ (v : List ℕ). now ++ v) (sym e) ∙ ap (λ (v : List _). now ++ F v)
    (sym (all_dropped xs)) ∙ inv
  where
    all_dropped : {X : Type 0} (xs : List X) → drop (length xs) xs ≡ []
    all_dropped [] = refl
    all_dropped (x ∷ xs) = all_dropped xs

-- ---- atoms

pub type_with_level : (b : Bool) (t : Tree) (ws : List Printed) → b ≡ true → is_level_0 t ≡ true →
    atom b t ws ≡ word (type_at 0) ∷ []
type_with_level b t ws e f = rw (e, f) refl

pub atom_of_itself : (b c : Bool) (t : Tree) (ws : List Printed) → is_atom t ≡ c →
    (b ≡ true → is_level_0 t ≡ true → ⊥) → atom b t ws ≡ bracketed c ws
atom_of_itself true c t ws e h = level_cases (is_level_0 t) refl
  where
    level_cases : (v : Bool) → is_level_0 t ≡ v → atom true t ws ≡ bracketed c ws
    level_cases true f = absurd (h refl f)
    level_cases false f = rw (f, e) refl
atom_of_itself false c t ws e h = rw e refl

-- ---- domains

pub domain_of_arrow : (c : ℕ) (k : Mark) (m : Mult) (n : List ℕ) (b : Bool) (a : Tree) (ws : List Printed) →
    is_arrow k m n ≡ true → is_app a ≡ b → domain c k m n a ws ≡ bracketed b ws
domain_of_arrow c Written m n b a ws e f = rw (e, f) refl
domain_of_arrow c Braced m n b a ws e f = absurd cc
domain_of_arrow c Inserted m n b a ws e f = absurd cc

pub domain_of_binder : (c : ℕ) (k : Mark) (m : Mult) (n : List ℕ) (a : Tree) (ws : List Printed) →
    is_arrow k m n ≡ false → k ≡ Written → domain c k m n a ws ≡ in_brackets (binding m n ws)
domain_of_binder c Written m n a ws e f = rw e refl
domain_of_binder c Braced m n a ws e f = absurd cc
domain_of_binder c Inserted m n a ws e f = absurd cc

-- ---- `let`

pub let_head_grows : (c : ℕ) (m : Mult) (n : List ℕ) (b : Bool) (ts es : List Printed) (o p q r : List ℕ) →
    p ≡ o ++ written (let_name m n) → q ≡ p ++ written ts → r ≡ q ++ written (parted c b) →
    (r ++ codes "= ") ++ written es ≡ o ++ written (let_head c m n b ts es)
let_head_grows c m n b ts es o p q r e f g = rw (g, f, e) (simp (append_assoc, written-append))

pub let_grows : (c : ℕ) (d : Bool) (head bs : List Printed) (o p q : List ℕ) → p ≡ o ++ written head →
    q ≡ p ++ written (parted c d) →
    (q ++ codes "in ") ++ written bs ≡ o ++ written (head ++ (parted c d ++ key (codes "in") ∷ blank ∷ bs))
let_grows c d head bs o p q e f = rw (f, e) (simp (append_assoc, written-append))

-- ---- braces

pub domain_of_braces : (c : ℕ) (k : Mark) (m : Mult) (n : List ℕ) (a : Tree) (ws : List Printed) →
    (k ≡ Braced) ⊎ (k ≡ Inserted) → domain c k m n a ws ≡ key (codes "{") ∷
    (binding m n ws ++ (broken c (ends_open a) ++ key (codes "}") ∷ []))
domain_of_braces c k m n a ws (inl e) = rw e refl
domain_of_braces c k m n a ws (inr e) = rw e refl

pub domain_grows : (c : ℕ) (m : Mult) (n : List ℕ) (a : Tree) (ws : List Printed) (o p q r s : List ℕ) →
    p ≡ o ++ codes "{" → q ≡ p ++ written (binding m n []) → r ≡ q ++ written ws →
    s ≡ r ++ written (broken c (ends_open a)) →
    s ++ codes "}" ≡ o ++ written
    (key (codes "{") ∷ (binding m n ws ++ (broken c (ends_open a) ++ key (codes "}") ∷ [])))
domain_grows c m n a ws o p q r s e f g h = rw (h, g, f, e) (simp (append_assoc, written-append))

-- a blank before a negative number
abbrev pub lead : Bool → List Printed
lead b = cond b (blank ∷ []) []

pub lead_grows : (b : Bool) (p q : List ℕ) → ((b ≡ true) × (q ≡ p ++ 32 ∷ [])) ⊎ ((b ≡ false) × (q ≡ p)) →
    q ≡ p ++ written (lead b)
lead_grows b p q (inl (e, f)) = rw e f
lead_grows b p q (inr (e, f)) = rw e (f ∙ sym (append-nil p))

pub braced_grows : (c : ℕ) (t : Tree) (ws : List Printed) (o p q r s : List ℕ) → p ≡ o ++ codes "{" →
    q ≡ p ++ written (lead (begins_negative t)) → r ≡ q ++ written ws →
    s ≡ r ++ written (broken c (ends_open t)) → s ++ codes "}" ≡ o ++ written (braced c t ws)
braced_grows c t ws o p q r s e f g h = rw (h, g, f, e) (simp (append_assoc, written-append))

-- ---- lists

pub rest_taken : {X : Type 0} (i : ℕ) (xs : List X) → take (length xs - i) (drop i xs) ≡ drop i xs
rest_taken i xs = ap (λ n. take n (drop i xs)) (sym (length-drop i xs)) ∙ take-length (drop i xs)

-- nothing is written for the mark before a statement
pub more_written : (c : ℕ) (ss : Statements) → written (more_statements c ss) ≡ written (statements c ss)
more_written c no_statement = refl
more_written c (statement_and s more) = refl

pub first_statement : (c : ℕ) (ss : Statements) (ws : List Printed) →
    written (ws ++ more_statements c ss) ≡ written ws ++ written (statements c ss)
first_statement c ss ws =
    written-append ws (more_statements c ss) ∙ ap (λ (v : List ℕ). written ws ++ v) (more_written c ss)

pub more_cons_written : (cs : List Con) → written (more_cons cs) ≡ written (cons cs)
more_cons_written [] = refl
more_cons_written (k ∷ more) = refl

pub first_con : (cs : List Con) (ws : List Printed) → written (ws ++ more_cons cs) ≡ written ws ++ written (cons cs)
first_con cs ws = written-append ws (more_cons cs) ∙ ap (λ (v : List ℕ). written ws ++ v) (more_cons_written cs)

-- ---- patterns

pub bare_pattern : (k : Mark) (h : Named) (ps : List Shape) (s : Span) → length ps ≡ 0 →
    pattern (constructor k h (shapes ps) s) ≡ word (named h.path) ∷ []
bare_pattern k h [] s e = refl
bare_pattern k h (p ∷ ps) s e = absurd (omega arith)

pub full_pattern : (k : Mark) (h : Named) (ps : List Shape) (s : Span) →
    (length ps ≡ 0 → ⊥) →
    pattern (constructor k h (shapes ps) s) ≡ in_brackets (word (named h.path) ∷ patterns (shapes ps))
full_pattern k h [] s e = absurd (e refl)
full_pattern k h (p ∷ ps) s e = refl

-- ---- items

pub family_grows : (n : List ℕ) (ns : Span) (ps : List Param) (t : Tree) (cs : List Con) (sp : Span)
    (o p q r s u v w : List ℕ) → p ≡ o ++ codes "data " → q ≡ p ++ n → r ≡ q ++ written (params ps) →
    s ≡ r ++ codes " : " → u ≡ s ++ written (expr 0 t) → v ≡ u ++ written (parted 0 (ends_open t)) →
    w ≡ v ++ codes "where" → w ++ written (cons cs) ≡ o ++ written (item (family n ns ps t cs sp))
family_grows n ns ps t cs sp o p q r s u v w e f g h i j k =
    rw (k, j, i, h, g, f, e) (simp (append_assoc, written-append, append-nil))
