-- The ends of branches, one branch after another.
use Rattle.std.proofs.Common.{◌≡◌, ◌∙◌, ℕ, zero, suc, ◌+◌, ◌<◌, ◌≤◌, List, [], ◌∷◌, ◌++◌, length, get_or, map, take, drop, Option, Some, None, slice_get, refl, sym, ap, arith, append_assoc, length-append}
use Rattle.std.proofs.lemmas.List.{map-append, take_more, drop_more, take_all, take-append-drop}
use Rattle.qtt_syntax.specs.Tree.{Shape}
use Rattle.qtt_term.specs.Contraction.{chain}
use Rattle.qtt_split.specs.declared.tree.Branch as code_branch
use Rattle.qtt_split.specs.Missing.{ends, all_ends, first_there}
use Rattle.qtt_split.specs.Tree.{Tree}
use Rattle.qtt_split.specs.View.{Seen, in_order, branch_of, branches_of}
use Rattle.qtt_cover.specs.Ends.{IsMissing, IsCovered}

abbrev End : Type 0
End = Option (List Shape)

pub ends-joined : (xs ys : List Seen) →
    all_ends (in_order (xs ++ ys)) ≡ all_ends (in_order xs) ++ all_ends (in_order ys)
ends-joined [] ys = refl
ends-joined (x ∷ xs) ys =
    ap (λ os. ends x.tree ++ os) (ends-joined xs ys) ∙
    sym (append_assoc (ends x.tree) (all_ends (in_order xs)) (all_ends (in_order ys)))

-- up to a branch, of it, and behind it
abbrev pub before : List code_branch.Branch → ℕ → List End
before bs i = all_ends (branches_of (take i bs))

pub ends-at : (bs : List code_branch.Branch) (i : ℕ) (b : code_branch.Branch) → i < length bs → b ≡ get_or bs i b →
    all_ends (branches_of bs) ≡ before bs i ++ (ends (branch_of b).tree ++ all_ends (branches_of (drop (i + 1) bs)))
ends-at bs i b h e =
    let parts : bs ≡ take i bs ++ (b ∷ drop (i + 1) bs) =
    sym (take-append-drop i bs) ∙
    ap (λ xs. take i bs ++ xs) (drop_more bs i b h ∙ ap (λ x. x ∷ drop (i + 1) bs) (sym e)) in
    ap (λ xs. all_ends (in_order xs))
    (ap (map branch_of) parts ∙ map-append branch_of (take i bs) (b ∷ drop (i + 1) bs)) ∙
    ends-joined (map branch_of (take i bs)) (branch_of b ∷ map branch_of (drop (i + 1) bs))

append-none : (os : List End) → os ++ [] ≡ os
append-none [] = refl
append-none (o ∷ os) = ap (λ xs. o ∷ xs) (append-none os)

pub ends-more : (bs : List code_branch.Branch) (i : ℕ) (b : code_branch.Branch) → i < length bs → b ≡ get_or bs i b →
    before bs (i + 1) ≡ before bs i ++ ends (branch_of b).tree
ends-more bs i b h e =
    ap (λ xs. all_ends (branches_of xs)) (take_more bs i b h ∙ ap (λ x. take i bs ++ x ∷ []) (sym e)) ∙
    ap (λ xs. all_ends (in_order xs)) (map-append branch_of (take i bs) (b ∷ [])) ∙
    ends-joined (map branch_of (take i bs)) (branch_of b ∷ []) ∙
    ap (λ os. before bs i ++ os) (append-none (ends (branch_of b).tree))

pub all-before : (bs : List code_branch.Branch) (i : ℕ) → length bs ≤ i → before bs i ≡ all_ends (branches_of bs)
all-before bs i h = ap (λ xs. all_ends (branches_of xs)) (take_all i bs h)

-- ---- numbers
pub count-more : (bs : List code_branch.Branch) (i n : ℕ) (b : code_branch.Branch) → i < length bs →
    b ≡ get_or bs i b →
    n + length (before bs i) + length (ends (branch_of b).tree) ≡ n + length (before bs (i + 1))
count-more bs i n b h e =
    let more = ap length (ends-more bs i b h e) ∙ length-append (before bs i) (ends (branch_of b).tree) in
    omega arith

pub count-within : (bs : List code_branch.Branch) (i n : ℕ) (b : code_branch.Branch) → i < length bs →
    b ≡ get_or bs i b →
    n + length (before bs i) + length (ends (branch_of b).tree) ≤ n + length (all_ends (branches_of bs))
count-within bs i n b h e =
    let rest = ends (branch_of b).tree ++ all_ends (branches_of (drop (i + 1) bs)) in
    let whole = ap length (ends-at bs i b h e) ∙ length-append (before bs i) rest in
    let inner = length-append (ends (branch_of b).tree) (all_ends (branches_of (drop (i + 1) bs))) in
    omega arith

-- ---- the first that is missing
pub first-there : (n k : ℕ) (os ps : List End) → first_there n os ≡ Some k → first_there n (os ++ ps) ≡ Some k
first-there n k [] ps e = absurd (cc e)
first-there n k (Some a ∷ os) ps e = e
first-there n k (None ∷ os) ps e = first-there (suc n) k os ps e

pub first-behind : (n : ℕ) (os ps : List End) → first_there n os ≡ None →
    first_there n (os ++ ps) ≡ first_there (n + length os) ps
first-behind n [] ps e = let z : n ≡ n + 0 = omega arith in ap (λ k. first_there k ps) z
first-behind n (Some a ∷ os) ps e = absurd (cc e)
first-behind n (None ∷ os) ps e =
    let s : suc n + length os ≡ n + suc (length os) = omega arith in
    first-behind (suc n) os ps e ∙ ap (λ k. first_there k ps) s

-- a missing end of a branch, where none is missing before it
pub first-of-branch : (bs : List code_branch.Branch) (i n m k : ℕ) (b : code_branch.Branch) → i < length bs →
    b ≡ get_or bs i b → first_there n (before bs i) ≡ None → m ≡ n + length (before bs i) →
    first_there m (ends (branch_of b).tree) ≡ Some k → first_there n (all_ends (branches_of bs)) ≡ Some k
first-of-branch bs i n m k b h e none d there =
    ap (first_there n) (ends-at bs i b h e) ∙
    first-behind n (before bs i) (ends (branch_of b).tree ++ all_ends (branches_of (drop (i + 1) bs))) none ∙
    ap (λ j. first_there j (ends (branch_of b).tree ++ all_ends (branches_of (drop (i + 1) bs)))) (sym d) ∙
    first-there m k (ends (branch_of b).tree) (all_ends (branches_of (drop (i + 1) bs))) there

pub none-of-branch : (bs : List code_branch.Branch) (i n m : ℕ) (b : code_branch.Branch) → i < length bs →
    b ≡ get_or bs i b → first_there n (before bs i) ≡ None → m ≡ n + length (before bs i) →
    first_there m (ends (branch_of b).tree) ≡ None → first_there n (before bs (i + 1)) ≡ None
none-of-branch bs i n m b h e none d there =
    ap (first_there n) (ends-more bs i b h e) ∙
    first-behind n (before bs i) (ends (branch_of b).tree) none ∙
    ap (λ j. first_there j (ends (branch_of b).tree)) (sym d) ∙ there

-- ---- the end at a place
pub get-behind : (os ps : List End) (k : ℕ) → slice_get (os ++ ps) (length os + k) ≡ slice_get ps k
get-behind [] ps k = let z : 0 + k ≡ k = omega arith in ap (slice_get ps) z
get-behind (o ∷ os) ps k =
    let s : suc (length os) + k ≡ suc (length os + k) = omega arith in
    ap (slice_get (o ∷ (os ++ ps))) s ∙ get-behind os ps k

pub get-here : (os ps : List End) (k : ℕ) (o : End) → slice_get os k ≡ Some o → slice_get (os ++ ps) k ≡ Some o
get-here [] ps k o e = absurd (cc e)
get-here (x ∷ os) ps zero o e = e
get-here (x ∷ os) ps (suc k) o e = get-here os ps k o e

pub end-of-branch : (bs : List code_branch.Branch) (i n k : ℕ) (b : code_branch.Branch) (o : End) → i < length bs →
    b ≡ get_or bs i b → n ≡ length (before bs i) + k → slice_get (ends (branch_of b).tree) k ≡ Some o →
    slice_get (all_ends (branches_of bs)) n ≡ Some o
end-of-branch bs i n k b o h e d there =
    ap (slice_get (all_ends (branches_of bs))) d ∙
    ap (λ os. slice_get os (length (before bs i) + k)) (ends-at bs i b h e) ∙
    get-behind (before bs i) (ends (branch_of b).tree ++ all_ends (branches_of (drop (i + 1) bs))) k ∙
    get-here (ends (branch_of b).tree) (all_ends (branches_of (drop (i + 1) bs))) k o there

-- ---- what is missing
record MissingAt (n k : ℕ) (os : List End) : Type 0 where
  patterns : List Shape
  place : ℕ
  there : slice_get os place ≡ Some (Some patterns)
  number : k ≡ n + place

missing-at : (n k : ℕ) (os : List End) → first_there n os ≡ Some k → MissingAt n k os
missing-at n k [] e = absurd (cc e)
missing-at n k (Some a ∷ os) e =
    let here : n ≡ k = cc in record { patterns = a; place = 0; there = refl; number = omega arith }
missing-at n k (None ∷ os) e =
    let r = missing-at (suc n) k os e in
    record { patterns = r.patterns; place = suc r.place; there = r.there; number = omega (arith, r.number) }

none-missing : (n j : ℕ) (os : List End) (ps : List Shape) → first_there n os ≡ None →
    slice_get os j ≡ Some (Some ps) → ⊥
none-missing n j [] ps e h = absurd (cc h)
none-missing n j (Some a ∷ os) ps e h = absurd (cc e)
none-missing n zero (None ∷ os) ps e h = absurd (cc h)
none-missing n (suc j) (None ∷ os) ps e h = none-missing (suc n) j os ps e h

-- a tree's ends by what was found of them
pub some-missing : (T : Tree) (k : ℕ) → first_there 0 (ends T) ≡ Some k → IsMissing T k
some-missing T k e =
    let r = missing-at 0 k (ends T) e in
    let same : r.place ≡ k = omega (arith, r.number) in
    (r.patterns, ap (λ o. chain o (λ x. x)) (ap (slice_get (ends T)) (sym same) ∙ r.there))

missing-there : (o : Option End) (ps : List Shape) → chain o (λ x. x) ≡ Some ps → o ≡ Some (Some ps)
missing-there None ps e = absurd (cc e)
missing-there (Some None) ps e = absurd (cc e)
missing-there (Some (Some qs)) ps e = ap (λ x. Some x) e

pub covered : (T : Tree) → first_there 0 (ends T) ≡ None → IsCovered T
covered T e = λ n m. none-missing 0 n (ends T) m.0 e (missing-there (slice_get (ends T) n) m.0 m.1)
