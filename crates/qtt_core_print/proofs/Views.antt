-- Printed forms whose components are lists.
use Rattle.std.proofs.Common.{◌≡◌, ℕ, suc, ◌+◌, ◌==◌, Bool, not, ◌||◌, true, false, rules, tests, arith, List, [], ◌∷◌, ◌++◌, map, take, drop, length, slice_index_or, codes, refl, ap, ◌∙◌, sym, append_assoc}
use Rattle.std.proofs.lemmas.Grind.{flat_map-append}
use Rattle.std.proofs.lemmas.List.{append-nil}
use Rattle.qtt_base.specs.declared.place.GlobalId.{GlobalId}
use Rattle.qtt_usage.specs.declared.mult.Mult.{Mult}
use Rattle.qtt_prims.specs.declared.prim.ActKind.{ActKind}
use Rattle.qtt_prims.specs.declared.prim.ActKind.TheVariants as act_kind
use Rattle.qtt_prims.specs.declared.prim.Primitive.{Primitive}
use Rattle.qtt_prims.specs.PrimNames.{prim_name, action_name}
use Rattle.qtt_term.specs.Term.{Io, PrimTy, Form, Term, Terms, node, ε, ◌▸◌, ◌+++◌, zeros, Pi, Lam, App, Fam, Delete, TypeOf, Call, Act, Trap}
use Rattle.qtt_term.specs.View.{side_by_side, action, terms}
use Rattle.qtt_term.specs.declared.term.Term as code
use Rattle.qtt_core_print.specs.Names.{family_name, constructor_name}
use Rattle.qtt_term.specs.Entries.{Entries}
use Rattle.qtt_core_print.specs.Printing.{applied, at_mark, behind_blank, behind_blanks, binding, braced, branch_texts, case_text, in_braces, kind_of, match_head, match_text, motive_text, prim_ty_name, text, texts}
use Rattle.qtt_core_print.specs.Writing.{arguments_text, braced_text, branches_text, where_needed}

pub zero_plus : (n : ℕ) → 0 + n ≡ n
zero_plus n = omega arith

-- ---- components side by side
texts_then : (N : Entries) (n : ℕ) (ts : List Term) (ss : Terms) →
    texts N n [] (side_by_side ts +++ ss) ≡ map (text N n) ts ++ texts N n [] ss
texts_then N n [] ss = refl
texts_then N n (t ∷ ts) ss = rw (zero_plus n) (ap (λ (v : List (List ℕ)). text N n t ∷ v) (texts_then N n ts ss))

texts_of : (N : Entries) (n : ℕ) (ts : List Term) → texts N n [] (side_by_side ts) ≡ map (text N n) ts
texts_of N n [] = refl
texts_of N n (t ∷ ts) = rw (zero_plus n) (ap (λ (v : List (List ℕ)). text N n t ∷ v) (texts_of N n ts))

braced_front : (f : Term → List ℕ) (ps : List Term) (xs : List (List ℕ)) →
    braced (length ps) (map f ps ++ xs) ≡ map in_braces (map f ps) ++ xs
braced_front f [] xs = refl
braced_front f (p ∷ ps) xs = ap (λ (v : List (List ℕ)). in_braces (f p) ∷ v) (braced_front f ps xs)

-- ---- names at their arguments
not_none : (n : ℕ) → (suc n == 0) ≡ false
not_none n = search (rules, tests)

applied_where : (r : Bool) (k : ℕ) (name : List ℕ) (ws : List (List ℕ)) → r ≡ (k == 0) → length ws ≡ k →
    where_needed (not r) (codes "(") ++ name ++ behind_blanks ws ++ where_needed (not r) (codes ")") ≡ applied name ws
applied_where r k name [] e l = rw (e, sym l) (append-nil (name ++ []) ∙ append-nil name)
applied_where r k name (w ∷ ws) e l = rw (e, sym l, not_none (length ws)) refl

same_length : (N : Entries) (n : ℕ) (xs : List code.Term) → length (map (text N n) (terms xs)) ≡ length xs
same_length N n [] = refl
same_length N n (x ∷ xs) = ap suc (same_length N n xs)

-- four pieces
nested_4 : (a b c d : List ℕ) → a ++ (b ++ (c ++ d)) ≡ a ++ b ++ c ++ d
nested_4 a b c d = simp append_assoc refl

nested_5 : (a b c d e : List ℕ) → a ++ (b ++ (c ++ (d ++ e))) ≡ a ++ b ++ c ++ d ++ e
nested_5 a b c d e = simp append_assoc refl

pub family_text : (N : Entries) (n : ℕ) (f : GlobalId) (r : Bool) (xs : List code.Term) → r ≡ (length xs == 0) →
    where_needed (not r) (codes "(") ++ (family_name N f ++ (arguments_text N n (terms xs) ++
    where_needed (not r) (codes ")"))) ≡ text N n (Fam f (side_by_side (terms xs)))
unfolding arguments_text
family_text N n f r xs e =
    nested_4 (where_needed (not r) (codes "(")) (family_name N f) (arguments_text N n (terms xs))
    (where_needed (not r) (codes ")")) ∙
    applied_where r (length xs) (family_name N f) (map (text N n) (terms xs)) e (same_length N n xs) ∙
    ap (λ (ws : List (List ℕ)). applied (family_name N f) ws) (sym (texts_of N n (terms xs)))

pub call_text : (N : Entries) (n : ℕ) (p : Primitive) (r : Bool) (xs : List code.Term) → r ≡ (length xs == 0) →
    where_needed (not r) (codes "(") ++ (prim_name p ++ (arguments_text N n (terms xs) ++
    where_needed (not r) (codes ")"))) ≡ text N n (Call p (side_by_side (terms xs)))
unfolding arguments_text
call_text N n p r xs e =
    nested_4 (where_needed (not r) (codes "(")) (prim_name p) (arguments_text N n (terms xs))
    (where_needed (not r) (codes ")")) ∙
    applied_where r (length xs) (prim_name p) (map (text N n) (terms xs)) e (same_length N n xs) ∙
    ap (λ (ws : List (List ℕ)). applied (prim_name p) ws) (sym (texts_of N n (terms xs)))

-- ---- names at arguments in braces and others
is_some : List (List ℕ) → Bool
is_some [] = false
is_some (w ∷ ws) = true

applied_pair : (b : Bool) (name : List ℕ) (bs ws : List (List ℕ)) → b ≡ is_some (bs ++ ws) →
    where_needed b (codes "(") ++ name ++ behind_blanks bs ++ behind_blanks ws ++ where_needed b (codes ")") ≡
    applied name (bs ++ ws)
unfolding is_some
applied_pair b name [] [] e = rw e (append-nil (name ++ [] ++ []) ∙ append-nil (name ++ []) ∙ append-nil name)
applied_pair b name [] (w ∷ ws) e =
    rw e (ap (λ (v : List ℕ). 40 ∷ (v ++ behind_blanks (w ∷ ws) ++ codes ")")) (append-nil name))
applied_pair b name (x ∷ bs) ws e =
    rw e (ap (λ (v : List ℕ). 40 ∷ (v ++ codes ")"))
    (append_assoc name (behind_blanks (x ∷ bs)) (behind_blanks ws) ∙
    ap (λ (v : List ℕ). name ++ v) (sym (flat_map-append behind_blank (x ∷ bs) ws))))

front_of : (N : Entries) (n : ℕ) → List code.Term → List (List ℕ)
front_of N n ps = map in_braces (map (text N n) (terms ps))

rest_of : (N : Entries) (n : ℕ) → List code.Term → List (List ℕ)
rest_of N n xs = map (text N n) (terms xs)

some_there : (N : Entries) (n : ℕ) (r s : Bool) (ps xs : List code.Term) → r ≡ (length ps == 0) → s ≡ (length xs == 0) →
    (not r || not s) ≡ is_some (front_of N n ps ++ rest_of N n xs)
unfolding is_some front_of rest_of
some_there N n r s [] [] e f = rw (e, f) refl
some_there N n r s [] (x ∷ xs) e f = rw (e, f, not_none (length xs)) refl
some_there N n r s (p ∷ ps) xs e f = rw (e, not_none (length ps)) refl

pair_text : (N : Entries) (n : ℕ) (name : List ℕ) (r s : Bool) (ps xs : List code.Term) → r ≡ (length ps == 0) →
    s ≡ (length xs == 0) →
    where_needed (not r || not s) (codes "(") ++ (name ++ (braced_text N n (terms ps) ++
    (arguments_text N n (terms xs) ++ where_needed (not r || not s) (codes ")")))) ≡
    applied name (braced (length (terms ps)) (texts N n [] (side_by_side (terms ps) +++ side_by_side (terms xs))))
unfolding front_of rest_of braced_text arguments_text
pair_text N n name r s ps xs e f =
    nested_5 (where_needed (not r || not s) (codes "(")) name (braced_text N n (terms ps)) (arguments_text N n (terms xs))
    (where_needed (not r || not s) (codes ")")) ∙
    applied_pair (not r || not s) name (front_of N n ps) (rest_of N n xs) (some_there N n r s ps xs e f) ∙
    ap (λ (ws : List (List ℕ)). applied name ws)
    (sym (braced_front (text N n) (terms ps) (rest_of N n xs)) ∙
    ap (λ (ws : List (List ℕ)). braced (length (terms ps)) ws)
    (ap (λ (ws : List (List ℕ)). map (text N n) (terms ps) ++ ws) (sym (texts_of N n (terms xs))) ∙
    sym (texts_then N n (terms ps) (side_by_side (terms xs)))))

pub constructor_text : (N : Entries) (n : ℕ) (f : GlobalId) (c : ℕ) (r s : Bool) (ps xs : List code.Term) →
    r ≡ (length ps == 0) → s ≡ (length xs == 0) →
    where_needed (not r || not s) (codes "(") ++ (constructor_name N f c ++ (braced_text N n (terms ps) ++
    (arguments_text N n (terms xs) ++ where_needed (not r || not s) (codes ")")))) ≡
    text N n (node (Form.con f c (length (terms ps))) (side_by_side (terms ps) +++ side_by_side (terms xs)))
constructor_text N n f c r s ps xs e g = pair_text N n (constructor_name N f c) r s ps xs e g

kind_back : (k : ActKind) → kind_of (action k) ≡ k
kind_back act_kind.Pure = refl
kind_back act_kind.Pure1 = refl
kind_back act_kind.PutLine = refl
kind_back act_kind.GetLine = refl
kind_back act_kind.Open = refl
kind_back act_kind.Write = refl
kind_back act_kind.Close = refl
kind_back act_kind.BindIoIo = refl
kind_back act_kind.BindIoIo1 = refl
kind_back act_kind.BindIo1Io = refl
kind_back act_kind.BindIo1Io1 = refl

pub action_text : (N : Entries) (n : ℕ) (k : ActKind) (r s : Bool) (ps xs : List code.Term) →
    r ≡ (length ps == 0) → s ≡ (length xs == 0) →
    where_needed (not r || not s) (codes "(") ++ (action_name k ++ (braced_text N n (terms ps) ++
    (arguments_text N n (terms xs) ++ where_needed (not r || not s) (codes ")")))) ≡
    text N n (Act (action k) (length (terms ps)) (side_by_side (terms ps) +++ side_by_side (terms xs)))
action_text N n k r s ps xs e g =
    pair_text N n (action_name k) r s ps xs e g ∙
    ap (λ (a : ActKind). applied (action_name a)
    (braced (length (terms ps)) (texts N n [] (side_by_side (terms ps) +++ side_by_side (terms xs)))))
    (sym (kind_back k))

-- ---- matches
behind_params : (N : Entries) (n : ℕ) (ps : List Term) (ns : List ℕ) (ss : Terms) →
    drop (length ps) (texts N n (zeros (length ps) ns) (side_by_side ps +++ ss)) ≡ texts N n ns ss
behind_params N n [] ns ss = refl
behind_params N n (p ∷ ps) ns ss = behind_params N n ps ns ss

bodies_then : (N : Entries) (n : ℕ) (bs : List (ℕ × Term)) (s : Term) →
    texts N n (map (λ b. b.0) bs) (side_by_side (map (λ b. b.1) bs) +++ (s ▸ ε)) ≡
    map (λ b. text N (b.0 + n) b.1) bs ++ text N n s ∷ []
bodies_then N n [] s = rw (zero_plus n) refl
bodies_then N n (b ∷ bs) s = ap (λ (v : List (List ℕ)). text N (b.0 + n) b.1 ∷ v) (bodies_then N n bs s)

last_there : (bs : List (ℕ × Term)) (f : ℕ × Term → List ℕ) (w d : List ℕ) →
    slice_index_or (map f bs ++ w ∷ []) (length (map (λ b. b.0) bs)) d ≡ w
last_there [] f w d = refl
last_there (b ∷ bs) f w d = last_there bs f w d

front_there : (bs : List (ℕ × Term)) (f : ℕ × Term → List ℕ) (w : List ℕ) →
    take (length (map (λ b. b.0) bs)) (map f bs ++ w ∷ []) ≡ map f bs
front_there [] f w = refl
front_there (b ∷ bs) f w = ap (λ (v : List (List ℕ)). f b ∷ v) (front_there bs f w)

-- the pieces of a match, one behind the other
abbrev pieces_of_match : List ℕ → Mult → List ℕ → ℕ → ℕ → List ℕ → List ℕ → List ℕ
pieces_of_match word q s n m P bs =
    match_head word q ++ (s ++ (motive_text n m P ++ (codes " {" ++ (bs ++ codes " })"))))

pub nested_6 : (a b c d e f : List ℕ) → a ++ (b ++ (c ++ (d ++ (e ++ f)))) ≡ a ++ b ++ c ++ d ++ e ++ f
nested_6 a b c d e f = simp append_assoc refl

pub nested_7 : (a b c d e f g : List ℕ) →
    a ++ (b ++ (c ++ (d ++ (e ++ (f ++ g))))) ≡ a ++ b ++ c ++ d ++ e ++ f ++ g
nested_7 a b c d e f g = simp append_assoc refl

match_pieces : (word : List ℕ) (q : Mult) (s : List ℕ) (n m : ℕ) (P bs : List ℕ) →
    pieces_of_match word q s n m P bs ≡ match_text word q s n m P bs
match_pieces word q s n m P bs =
    nested_6 (match_head word q) s (motive_text n m P) (codes " {") bs (codes " })")

pub case_shown : (N : Entries) (n : ℕ) (q : Mult) (f : GlobalId) (m : ℕ) (ps : List Term) (P : Term)
    (bs : List (ℕ × Term)) (s : Term) →
    pieces_of_match (codes "case") q (text N n s) n m (text N (m + n) P) (branches_text N n f 0 bs) ≡
    text N n (node (Form.case q f (length ps) m (map (λ b. b.0) bs))
    (side_by_side ps +++ (P ▸ (side_by_side (map (λ b. b.1) bs) +++ (s ▸ ε)))))
unfolding branches_text
case_shown N n q f m ps P bs s =
    let ks = map (λ (b : ℕ × Term). b.0) bs in
    let body = λ (b : ℕ × Term). text N (b.0 + n) b.1 in
    let ts = map body bs ++ text N n s ∷ [] in
    match_pieces (codes "case") q (text N n s) n m (text N (m + n) P) (branches_text N n f 0 bs) ∙
    ap (λ (v : List ℕ). match_text (codes "case") q v n m (text N (m + n) P) (branches_text N n f 0 bs))
    (sym (last_there bs body (text N n s) (codes "_"))) ∙
    ap (λ (v : List (List ℕ)). match_text (codes "case") q (slice_index_or ts (length ks) (codes "_")) n m
    (text N (m + n) P) (branch_texts N n f 0 ks v)) (sym (front_there bs body (text N n s))) ∙
    ap (λ (v : List (List ℕ)). case_text N n q f m ks (text N (m + n) P ∷ v)) (sym (bodies_then N n bs s)) ∙
    ap (λ (v : List (List ℕ)). case_text N n q f m ks v)
    (sym (behind_params N n ps (m ∷ ks) (P ▸ (side_by_side (map (λ b. b.1) bs) +++ (s ▸ ε)))))

pub delete_shown : (N : Entries) (n : ℕ) (q : Mult) (A t P b s : Term) →
    pieces_of_match (codes "delete") q (text N n s) n 1 (text N (1 + n) P) (codes " " ++ text N n b) ≡
    text N n (Delete q A t P b s)
delete_shown N n q A t P b s =
    match_pieces (codes "delete") q (text N n s) n 1 (text N (1 + n) P) (codes " " ++ text N n b) ∙
    rw (zero_plus n) refl

-- ---- binders, applications and others
pub pi_shown : (N : Entries) (n : ℕ) (q : Mult) (A B : Term) →
    codes "(" ++ (binding n q (text N n A) ++ (codes " -> " ++ (text N (1 + n) B ++ codes ")"))) ≡ text N n (Pi q A B)
pi_shown N n q A B =
    nested_5 (codes "(") (binding n q (text N n A)) (codes " -> ") (text N (1 + n) B) (codes ")") ∙
    rw (zero_plus n) refl

pub lam_shown : (N : Entries) (n : ℕ) (q : Mult) (A b : Term) →
    codes "(\\" ++ (binding n q (text N n A) ++ (codes " => " ++ (text N (1 + n) b ++ codes ")"))) ≡ text N n (Lam q A b)
lam_shown N n q A b =
    nested_5 (codes "(\\") (binding n q (text N n A)) (codes " => ") (text N (1 + n) b) (codes ")") ∙
    rw (zero_plus n) refl

pub app_shown : (N : Entries) (n : ℕ) (q : Mult) (f a : Term) →
    codes "(" ++ (text N n f ++ (codes " " ++ (at_mark q ++ (text N n a ++ codes ")")))) ≡ text N n (App q f a)
app_shown N n q f a =
    ap (λ (v : List ℕ). codes "(" ++ v) (nested_5 (text N n f) (codes " ") (at_mark q) (text N n a) (codes ")")) ∙
    rw (zero_plus n) refl

pub io_shown : (N : Entries) (n : ℕ) (m : Io) (A : Term) →
    codes "(" ++ (prim_ty_name (PrimTy.io_of m) ++ (codes " " ++ (text N n A ++ codes ")"))) ≡
    text N n (TypeOf (PrimTy.io_of m) (A ▸ ε))
io_shown N n m A =
    ap (λ (v : List ℕ). codes "(" ++ v)
    (nested_4 (prim_ty_name (PrimTy.io_of m)) (codes " ") (text N n A) (codes ")")) ∙
    rw (zero_plus n) (ap (λ (v : List ℕ). codes "(" ++ (v ++ codes ")"))
    (append_assoc (prim_ty_name (PrimTy.io_of m)) (codes " ") (text N n A) ∙
    ap (λ (v : List ℕ). prim_ty_name (PrimTy.io_of m) ++ (32 ∷ v)) (sym (append-nil (text N n A)))))

pub trap_shown : (N : Entries) (n : ℕ) (A : Term) → codes "(trap " ++ (text N n A ++ codes ")") ≡ text N n (Trap A)
trap_shown N n A = rw (zero_plus n) refl
