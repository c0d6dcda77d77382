-- Declarations of items, one item after another.
use Rattle.std.proofs.Common.{◌≡◌, ◌∙◌, ℕ, ◌<◌, Bool, true, false, List, [], ◌∷◌, ◌++◌, map, length, bytes_eq, refl, sym, ap, arith, append_assoc, append-nil}
use Rattle.std.proofs.lemmas.List.{map-append}
use Rattle.std.proofs.lemmas.Slice.Eq.{bytes_eq-Decides}
use Rattle.qtt_syntax.specs.declared.module.Clause as code_clause
use Rattle.qtt_syntax.specs.declared.module.Item.TheVariants as item
use Rattle.qtt_syntax.specs.Tree.{Item}
use Rattle.qtt_syntax.specs.View.{item_of}
use Rattle.qtt_split.specs.Calls.{clause_of}
use Rattle.qtt_split.specs.Node.{Clause}
use Rattle.qtt_module.specs.declared.declaration.Declaration as code
use Rattle.qtt_module.specs.declared.declaration.Declaration.TheVariants as variant
use Rattle.qtt_module.specs.Declarations.{Declaration, with_clause, declarations}
use Rattle.qtt_module.specs.Declaring.{grouped, declared, all_declared, is_of_group, behind_one, after_clause}

-- ---- a clause in front and one behind
same-name : (m k n : List ℕ) (b : Bool) → bytes_eq m k ≡ true → bytes_eq k n ≡ b → bytes_eq m n ≡ b
same-name m k n b e f = let s : m ≡ k = (bytes_eq-Decides m k).0 e in ap (λ x. bytes_eq x n) s ∙ f

merged : (m : List ℕ) (d : Clause) (ds : List Declaration) (n : List ℕ) (c : Clause) →
    with_clause m d (after_clause ds n c) ≡ after_clause (with_clause m d ds) n c
merged m d [] n c = refl
merged m d (Declaration.family f ps t cs ∷ []) n c = refl
merged m d (Declaration.signature b q f s t ∷ []) n c = refl
merged m d (Declaration.group k a bs ∷ []) n c = by (bytes_eq k n) (bytes_eq m k) refl refl
  where
    by : (x y : Bool) → bytes_eq k n ≡ x → bytes_eq m k ≡ y →
        with_clause m d (after_clause (Declaration.group k a bs ∷ []) n c)
        ≡ after_clause (with_clause m d (Declaration.group k a bs ∷ [])) n c
    by true true e f = rw e (rw f (rw (same-name m k n true f e) refl))
    by false true e f = rw e (rw f (rw (same-name m k n false f e) refl))
    by true false e f = rw e (rw f (rw e refl))
    by false false e f = rw e (rw f (rw e refl))
merged m d (Declaration.family f ps t cs ∷ e ∷ ds) n c = refl
merged m d (Declaration.signature b q f s t ∷ e ∷ ds) n c = refl
merged m d (Declaration.group k a bs ∷ e ∷ ds) n c = by (bytes_eq m k) refl
  where
    by : (y : Bool) → bytes_eq m k ≡ y →
        with_clause m d (after_clause (Declaration.group k a bs ∷ e ∷ ds) n c)
        ≡ after_clause (with_clause m d (Declaration.group k a bs ∷ e ∷ ds)) n c
    by true f = rw f refl
    by false f = rw f refl

pub clause-behind : (is : List Item) (c : code_clause.Clause) →
    declarations (is ++ item_of (item.Clause c) ∷ []) ≡ after_clause (declarations is) c.name (clause_of c)
clause-behind [] c = refl
clause-behind (Item.family n r ps t cs s ∷ is) c = with_front (declarations is) (clause-behind is c)
  where
    with_front : (ds : List Declaration) → declarations (is ++ item_of (item.Clause c) ∷ []) ≡
        after_clause ds c.name (clause_of c) →
        Declaration.family n ps t cs ∷ declarations (is ++ item_of (item.Clause c) ∷ [])
        ≡ after_clause (Declaration.family n ps t cs ∷ ds) c.name (clause_of c)
    with_front [] e = ap (λ xs. Declaration.family n ps t cs ∷ xs) e
    with_front (d ∷ ds) e = ap (λ xs. Declaration.family n ps t cs ∷ xs) e
clause-behind (Item.signature b q n r t s ∷ is) c = with_front (declarations is) (clause-behind is c)
  where
    with_front : (ds : List Declaration) → declarations (is ++ item_of (item.Clause c) ∷ []) ≡
        after_clause ds c.name (clause_of c) →
        Declaration.signature b q n r t ∷ declarations (is ++ item_of (item.Clause c) ∷ [])
        ≡ after_clause (Declaration.signature b q n r t ∷ ds) c.name (clause_of c)
    with_front [] e = ap (λ xs. Declaration.signature b q n r t ∷ xs) e
    with_front (d ∷ ds) e = ap (λ xs. Declaration.signature b q n r t ∷ xs) e
clause-behind (Item.clause n ps e s ∷ is) c =
    let d : Clause = record { patterns = ps; side = e; span = s } in
    ap (with_clause n d) (clause-behind is c) ∙ merged n d (declarations is) c.name (clause_of c)

-- ---- another item behind others
before-plain : (m : List ℕ) (d : Clause) (ds : List Declaration) (x : Declaration) →
    ((e : Clause) → with_clause m e (x ∷ []) ≡ Declaration.group m e [] ∷ x ∷ []) →
    with_clause m d (ds ++ x ∷ []) ≡ with_clause m d ds ++ x ∷ []
before-plain m d [] x h = h d
before-plain m d (Declaration.family f ps t cs ∷ ds) x h = refl
before-plain m d (Declaration.signature b q f s t ∷ ds) x h = refl
before-plain m d (Declaration.group k a bs ∷ ds) x h = by (bytes_eq m k) refl
  where
    by : (y : Bool) → bytes_eq m k ≡ y →
        with_clause m d ((Declaration.group k a bs ∷ ds) ++ x ∷ [])
        ≡ with_clause m d (Declaration.group k a bs ∷ ds) ++ x ∷ []
    by true f = rw f refl
    by false f = rw f refl

plain-behind : (is : List Item) (i : Item) (x : Declaration) → declarations (i ∷ []) ≡ x ∷ [] →
    ((m : List ℕ) (e : Clause) → with_clause m e (x ∷ []) ≡ Declaration.group m e [] ∷ x ∷ []) →
    declarations (is ++ i ∷ []) ≡ declarations is ++ x ∷ []
plain-behind [] i x e h = e
plain-behind (Item.family n r ps t cs s ∷ is) i x e h =
    ap (λ xs. Declaration.family n ps t cs ∷ xs) (plain-behind is i x e h)
plain-behind (Item.signature b q n r t s ∷ is) i x e h =
    ap (λ xs. Declaration.signature b q n r t ∷ xs) (plain-behind is i x e h)
plain-behind (Item.clause n ps f s ∷ is) i x e h =
    let d : Clause = record { patterns = ps; side = f; span = s } in
    ap (with_clause n d) (plain-behind is i x e h) ∙ before-plain n d (declarations is) x (h n)

-- ---- the code's declarations
pub all-more : (ds : List code.Declaration) (d : code.Declaration) →
    all_declared (ds ++ d ∷ []) ≡ all_declared ds ++ declared d
all-more [] d = append-nil (declared d)
all-more (x ∷ ds) d =
    ap (λ ys. declared x ++ ys) (all-more ds d) ∙ sym (append_assoc (declared x) (all_declared ds) (declared d))

after-last : (xs : List Declaration) (d : Declaration) (n : List ℕ) (c : Clause) →
    after_clause (xs ++ d ∷ []) n c ≡ xs ++ behind_one d n c
after-last [] d n c = refl
after-last (x ∷ []) d n c = refl
after-last (x ∷ y ∷ xs) d n c = ap (λ ys. x ∷ ys) (after-last (y ∷ xs) d n c)

-- a clause behind a group of its name, and behind what is none
pub one-more : (ds : List code.Declaration) (cs : List code_clause.Clause) (c : code_clause.Clause) →
    is_of_group cs c ≡ true →
    all_declared ds ++ grouped (cs ++ c ∷ [])
    ≡ after_clause (all_declared ds ++ grouped cs) c.name (clause_of c)
one-more ds [] c e = absurd (cc e)
one-more ds (d ∷ cs) c e =
    ap (λ xs. all_declared ds ++ xs) (larger ∙ here)
    ∙ sym (after-last (all_declared ds) (Declaration.group d.name (clause_of d) (map clause_of cs)) c.name
    (clause_of c))
  where
    larger : grouped ((d ∷ cs) ++ c ∷ [])
        ≡ Declaration.group d.name (clause_of d) (map clause_of cs ++ clause_of c ∷ []) ∷ []
    larger = ap (λ xs. Declaration.group d.name (clause_of d) xs ∷ []) (map-append clause_of cs (c ∷ []))

    here : Declaration.group d.name (clause_of d) (map clause_of cs ++ clause_of c ∷ []) ∷ []
        ≡ behind_one (Declaration.group d.name (clause_of d) (map clause_of cs)) c.name (clause_of c)
    here = rw e refl

pub new-group : (ds : List code.Declaration) (cs : List code_clause.Clause) (c : code_clause.Clause) →
    0 < length cs → is_of_group cs c ≡ false →
    (all_declared ds ++ grouped cs) ++ grouped (c ∷ [])
    ≡ after_clause (all_declared ds ++ grouped cs) c.name (clause_of c)
new-group ds [] c h e = let no : ⊥ = omega (arith, h) in absurd no
new-group ds (d ∷ cs) c h e =
    append_assoc (all_declared ds) (grouped (d ∷ cs)) (grouped (c ∷ []))
    ∙ ap (λ xs. all_declared ds ++ xs) here
    ∙ sym (after-last (all_declared ds) (Declaration.group d.name (clause_of d) (map clause_of cs)) c.name
    (clause_of c))
  where
    here : grouped (d ∷ cs) ++ grouped (c ∷ [])
        ≡ behind_one (Declaration.group d.name (clause_of d) (map clause_of cs)) c.name (clause_of c)
    here = rw e refl

-- a clause behind a family or a signature
pub behind-plain : (ds : List code.Declaration) (d : code.Declaration) (x : Declaration) (c : code_clause.Clause) →
    declared d ≡ x ∷ [] →
    ((e : Clause) → behind_one x c.name e ≡ x ∷ Declaration.group c.name e [] ∷ []) →
    (all_declared ds ++ declared d) ++ grouped (c ∷ [])
    ≡ after_clause (all_declared ds ++ declared d) c.name (clause_of c)
behind-plain ds d x c e h =
    append_assoc (all_declared ds) (declared d) (grouped (c ∷ []))
    ∙ ap (λ ys. all_declared ds ++ (ys ++ grouped (c ∷ []))) e
    ∙ ap (λ ys. all_declared ds ++ ys) (sym (h (clause_of c)))
    ∙ sym (after-last (all_declared ds) x c.name (clause_of c))
    ∙ ap (λ ys. after_clause (all_declared ds ++ ys) c.name (clause_of c)) (sym e)

-- two more
pub two-more : (ds : List code.Declaration) (d e : code.Declaration) →
    all_declared ((ds ++ d ∷ []) ++ e ∷ []) ≡ (all_declared ds ++ declared d) ++ declared e
two-more ds d e = all-more (ds ++ d ∷ []) e ∙ ap (λ xs. xs ++ declared e) (all-more ds d)

-- ---- items
pub family-behind : (is : List Item) (f : _) →
    declarations (is ++ item_of (item.Family f) ∷ []) ≡ declarations is ++ declared (variant.Family f)
family-behind is f = plain-behind is (item_of (item.Family f)) _ refl (λ m e. refl)

pub signature-behind : (is : List Item) (d : _) →
    declarations (is ++ item_of (item.Signature d) ∷ []) ≡ declarations is ++ declared (variant.Signature d)
signature-behind is d = plain-behind is (item_of (item.Signature d)) _ refl (λ m e. refl)
