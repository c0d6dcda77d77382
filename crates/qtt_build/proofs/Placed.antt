-- The named module stands among those that are built.
use Rattle.std.proofs.Common.{◌≡◌, ℕ, zero, suc, ◌+◌, ◌<◌, ◌≤◌, Bool, true, false, cond, List, [], ◌∷◌, ◌++◌, map, length, Option, Some, None, Ok, Err, refl, sym, ap, ◌∙◌, subst, ◌⊎◌, inl, inr, arith}
use Rattle.std.specs.Prelude.{IsTrue, max, ◌==◌, filter, find, slice_get, option_map, unwrap_or}
use Rattle.std.specs.List.{list_any, list_all, cons_option}
use Rattle.std.specs.Option.{option_map_or, option_and_then}
use Rattle.std.proofs.lemmas.Bool.{and_parts, and_from, or_cases, cases_lt, eqb-true, eq-eqb}
use Rattle.std.proofs.lemmas.Bool as test
use Rattle.std.proofs.lemmas.List.{map-append}
use mathlib.Core.Path.{ap₂}
use Rattle.qtt_syntax.specs.declared.module.Import.{Import}
use Rattle.qtt_syntax.specs.Tree.{Module}
use Rattle.qtt_syntax.specs.Tree.Module.{module_text}
use Rattle.qtt_graph.specs.Graph.{Name, Graph, Header, header_of, same_name, is_among, counts, imports_in, import_name, below, names, is_there, all_there, is_whole, all_differ, in_front, inserted, in_byte_order}
use Rattle.qtt_graph.specs.Ring.{ring}
use Rattle.qtt_graph.specs.Ranks.{one_above, rank_within, rank, has_rank, of_rank, put_first, by_rank, place_among, place, ranked, unless, ranks}
use Rattle.qtt_graph.specs.Laws.{Closed, RanksAreAbove}
use Rattle.qtt_load.specs.Reading.{Reading}
use Rattle.qtt_load.specs.Loading.{module_name, loaded}
use Rattle.qtt_load.specs.Laws.{ReadsAsNamed, LoadedAreBuilds}
use Rattle.qtt_names.specs.Scope as scope
use Rattle.qtt_module.specs.Refused.{Answer, ◌>>=◌}
use Rattle.qtt_module.specs.Text.{Accepted}
use Rattle.qtt_module.proofs.Judged.{texts_are_judged_holds}
use Rattle.qtt_build.specs.Built.{Built, nothing_yet, numbered, is_named, imports_for, judged_at, answers, all_accepted, judged_rank, with_rank, built_by_rank}
use Rattle.qtt_build.specs.Build.{modules_at}

-- ---- names among others
pub same-is : (a b : Name) → same_name a b ≡ true → a ≡ b
same-is [] [] e = refl
same-is [] (y ∷ ys) e = absurd (cc e)
same-is (x ∷ xs) [] e = absurd (cc e)
same-is (x ∷ xs) (y ∷ ys) e =
    let d = and_parts _ _ e in
    ap₂ (λ p q. p ∷ q) (eqb-true x y d.0) (same-is xs ys d.1)

same-self : (a : Name) → same_name a a ≡ true
same-self [] = refl
same-self (x ∷ xs) = and_from _ _ (eq-eqb x x refl) (same-self xs)

same-as : (a b : Name) → a ≡ b → same_name a b ≡ true
same-as a b e = subst (λ c. same_name a c ≡ true) e (same-self a)

in-head : (a b : Name) (ns : List Name) → a ≡ b → is_among (b ∷ ns) a ≡ true
in-head a b ns e = test.or_left (same_name a b) _ (same-as a b e)

in-tail : (a b : Name) (ns : List Name) → is_among ns a ≡ true → is_among (b ∷ ns) a ≡ true
in-tail a b ns i = test.or_right (same_name a b) _ i

in-cases : (a b : Name) (ns : List Name) → is_among (b ∷ ns) a ≡ true → (a ≡ b) ⊎ (is_among ns a ≡ true)
in-cases a b ns i = by_part (or_cases (same_name a b) (is_among ns a) i)
  where
    by_part : (same_name a b ≡ true) ⊎ (is_among ns a ≡ true) → (a ≡ b) ⊎ (is_among ns a ≡ true)
    by_part (inl e) = inl (same-is a b e)
    by_part (inr e) = inr e

in-either : (a : Name) (xs ys : List Name) → (is_among xs a ≡ true) ⊎ (is_among ys a ≡ true) →
    is_among (xs ++ ys) a ≡ true
in-either a [] ys (inl i) = absurd (cc i)
in-either a [] ys (inr i) = i
in-either a (x ∷ xs) ys (inl i) = by_part (λ j. in-either a xs ys (inl j)) (in-cases a x xs i)
  where
    by_part : (is_among xs a ≡ true → is_among (xs ++ ys) a ≡ true) → (a ≡ x) ⊎ (is_among xs a ≡ true) →
        is_among (x ∷ xs ++ ys) a ≡ true
    by_part later (inl e) = in-head a x (xs ++ ys) e
    by_part later (inr j) = in-tail a x (xs ++ ys) (later j)
in-either a (x ∷ xs) ys (inr i) = in-tail a x (xs ++ ys) (in-either a xs ys (inr i))

-- ---- none is lost in byte order
inserted-has : (q a : Name) (ns : List Name) → (q ≡ a) ⊎ (is_among ns q ≡ true) → is_among (inserted a ns) q ≡ true
inserted-has q a [] (inl e) = in-head q a [] e
inserted-has q a [] (inr i) = absurd (cc i)
inserted-has q a (b ∷ bs) h = by_test (inserted-has q a bs) (in_front a b) h
  where
    behind : ((q ≡ a) ⊎ (is_among bs q ≡ true) → is_among (inserted a bs) q ≡ true) →
        (q ≡ b) ⊎ (is_among bs q ≡ true) → is_among (b ∷ inserted a bs) q ≡ true
    behind later (inl e) = in-head q b (inserted a bs) e
    behind later (inr i) = in-tail q b (inserted a bs) (later (inr i))

    by_test : ((q ≡ a) ⊎ (is_among bs q ≡ true) → is_among (inserted a bs) q ≡ true) → (t : Bool) →
        (q ≡ a) ⊎ (is_among (b ∷ bs) q ≡ true) → is_among (cond t (a ∷ b ∷ bs) (b ∷ inserted a bs)) q ≡ true
    by_test later true (inl e) = in-head q a (b ∷ bs) e
    by_test later true (inr i) = in-tail q a (b ∷ bs) i
    by_test later false (inl e) = in-tail q b (inserted a bs) (later (inl e))
    by_test later false (inr i) = behind later (in-cases q b bs i)

in-order-has : (q : Name) (ns : List Name) → is_among ns q ≡ true → is_among (in_byte_order ns) q ≡ true
in-order-has q [] i = i
in-order-has q (n ∷ ns) i =
    inserted-has q n (in_byte_order ns) (by_part (in-order-has q ns) (in-cases q n ns i))
  where
    by_part : (is_among ns q ≡ true → is_among (in_byte_order ns) q ≡ true) → (q ≡ n) ⊎ (is_among ns q ≡ true) →
        (q ≡ n) ⊎ (is_among (in_byte_order ns) q ≡ true)
    by_part later (inl e) = inl e
    by_part later (inr j) = inr (later j)

filtered-has : (p : Name → Bool) (q : Name) (ns : List Name) → is_among ns q ≡ true → p q ≡ true →
    is_among (filter p ns) q ≡ true
filtered-has p q [] i e = i
filtered-has p q (n ∷ ns) i e = by_test (λ j. filtered-has p q ns j e) (p n) refl (in-cases q n ns i)
  where
    by_test : (is_among ns q ≡ true → is_among (filter p ns) q ≡ true) → (t : Bool) → p n ≡ t →
        (q ≡ n) ⊎ (is_among ns q ≡ true) → is_among (cond t (n ∷ filter p ns) (filter p ns)) q ≡ true
    by_test later true d (inl s) = in-head q n (filter p ns) s
    by_test later true d (inr j) = in-tail q n (filter p ns) (later j)
    by_test later false d (inl s) = absurd (test.true≢false (sym (subst (λ b. p b ≡ true) s e) ∙ d))
    by_test later false d (inr j) = later j

-- ---- each import is one of the modules
imports-there : (ns : List Name) (is : List Import) → all_there ns is ≡ true → (b : Name) →
    is_among (map import_name (filter counts is)) b ≡ true → is_among ns b ≡ true
imports-there ns [] t b i = absurd (cc i)
imports-there ns (i ∷ is) t b among =
    let parts = and_parts (is_there ns i) (all_there ns is) t in
    by_test (imports-there ns is parts.1 b) (counts i) parts.0 among
  where
    by_part : (is_among (map import_name (filter counts is)) b ≡ true → is_among ns b ≡ true) →
        is_among ns i.name ≡ true → (b ≡ i.name) ⊎ (is_among (map import_name (filter counts is)) b ≡ true) →
        is_among ns b ≡ true
    by_part later there (inl s) = subst (λ c. is_among ns c ≡ true) (sym s) there
    by_part later there (inr j) = later j

    by_test : (is_among (map import_name (filter counts is)) b ≡ true → is_among ns b ≡ true) → (t : Bool) →
        cond t (is_among ns i.name) true ≡ true →
        is_among (map import_name (cond t (i ∷ filter counts is) (filter counts is))) b ≡ true →
        is_among ns b ≡ true
    by_test later true there j =
        by_part later there (in-cases b i.name (map import_name (filter counts is)) j)
    by_test later false there j = later j

found-there : (ns : List Name) (a : Name) (hs : List Header) →
    list_all (λ (h : Header). all_there ns h.imports) hs ≡ true → (b : Name) →
    is_among (map import_name (imports_in (find (λ (h : Header). same_name h.name a) hs))) b ≡ true →
    is_among ns b ≡ true
found-there ns a [] t b i = absurd (cc i)
found-there ns a (h ∷ hs) t b i =
    let parts = and_parts (all_there ns h.imports) (list_all (λ (k : Header). all_there ns k.imports) hs) t in
    by_test parts.0 (found-there ns a hs parts.1 b) (same_name h.name a) i
  where
    by_test : all_there ns h.imports ≡ true →
        (is_among (map import_name (imports_in (find (λ (k : Header). same_name k.name a) hs))) b ≡ true →
        is_among ns b ≡ true) → (t : Bool) →
        is_among (map import_name (imports_in (cond t (Some h) (find (λ (k : Header). same_name k.name a) hs)))) b ≡
        true → is_among ns b ≡ true
    by_test there later true j = imports-there ns h.imports there b j
    by_test there later false j = later j

closed : (g : Graph) → IsTrue (is_whole g) → Closed g
closed g w a b i =
    let parts = and_parts (all_differ (names g)) (list_all (λ (h : Header). all_there (names g) h.imports) g) w in
    found-there (names g) a g parts.1 b i

-- ---- a rank is below the number of modules
at-most : (m k j r : ℕ) → k < m → j ≤ m → max (suc k) j ≡ r → r ≤ m
at-most m k j r a b e = omega arith

above-at-most : (f : Name → Option ℕ) (m : ℕ) → ((b : Name) (s : ℕ) → f b ≡ Some s → s < m) → (ns : List Name)
    (r : ℕ) → one_above (map f ns) ≡ Some r → r ≤ m
above-at-most f m each [] r e = let is : 0 ≡ r = cc in omega arith
above-at-most f m each (b ∷ ns) r e =
    by_ranks (λ j d. above-at-most f m each ns j d) (f b) refl (one_above (map f ns)) refl e
  where
    by_ranks : ((j : ℕ) → one_above (map f ns) ≡ Some j → j ≤ m) → (o : Option ℕ) → f b ≡ o → (p : Option ℕ) →
        one_above (map f ns) ≡ p → option_and_then (λ k. option_map (max (suc k)) p) o ≡ Some r → r ≤ m
    by_ranks later None d p c h = absurd (cc h)
    by_ranks later (Some k) d None c h = absurd (cc h)
    by_ranks later (Some k) d (Some j) c h =
        let is : max (suc k) j ≡ r = cc in
        at-most m k j r (each b k d) (later j c) is

rank-below : (g : Graph) (n : ℕ) (a : Name) (r : ℕ) → rank_within g n a ≡ Some r → r < n
rank-below g zero a r e = absurd (cc e)
rank-below g (suc n) a r e =
    let most = above-at-most (rank_within g n) n (rank-below g n) (below g a) r e in
    omega (arith, most)

-- ---- the ranks have each name
abbrev InSome : Name → List (List Name) → Type 0
InSome a [] = ⊥
InSome a (ns ∷ more) = (is_among ns a ≡ true) ⊎ InSome a more

put-in : (a : Name) (ns : List Name) (more : List (List Name)) → (is_among ns a ≡ true) ⊎ InSome a more →
    InSome a (put_first ns more)
put-in a [] more (inl i) = absurd (cc i)
put-in a [] more (inr s) = s
put-in a (b ∷ bs) more h = h

has-rank : (g : Graph) (a : Name) (r : ℕ) → rank g a ≡ Some r → has_rank g r a ≡ true
has-rank g a r e = ap (λ o. option_map_or (λ n. n == r) o false) e ∙ eq-eqb r r refl

module _ (g : Graph) (a : Name) (r : ℕ) (is : rank g a ≡ Some r) (there : is_among (names g) a ≡ true) where
  in-own-rank : is_among (of_rank g r) a ≡ true
  in-own-rank =
      filtered-has (has_rank g r) a (in_byte_order (names g)) (in-order-has a (names g) there) (has-rank g a r is)

  ranked-in : (lo n : ℕ) → lo ≤ r → r < lo + n → InSome a (by_rank g lo n)
  ranked-in lo zero l u = absurd (omega arith)
  ranked-in lo (suc n) l u =
      put-in a (of_rank g lo) (by_rank g (suc lo) n)
      (by_order (λ m. ranked-in (suc lo) n m (omega arith)) (cases_lt lo r))
    where
      by_order : (suc lo ≤ r → InSome a (by_rank g (suc lo) n)) → (lo < r) ⊎ (r ≤ lo) →
          (is_among (of_rank g lo) a ≡ true) ⊎ InSome a (by_rank g (suc lo) n)
      by_order later (inl lower) = inr (later (omega arith))
      by_order later (inr higher) =
          let same : r ≡ lo = omega arith in
          inl (subst (λ k. is_among (of_rank g k) a ≡ true) same in-own-rank)

-- ---- and so have the modules at their places
abbrev Stands : Name → List (List Module) → Type 0
Stands a [] = ⊥
Stands a (level ∷ more) = (is_among (map module_name level) a ≡ true) ⊎ Stands a more

module _ (ms : List Module) (g : Graph) (a : Name) (m : Module) (at : slice_get ms (place g a) ≡ Some m)
    (named : module_name m ≡ a) where
  gives-it : (o : Option Module) (rest : List Module) → o ≡ Some m →
      is_among (map module_name (cons_option o rest)) a ≡ true
  gives-it o rest e =
      subst (λ (p : Option Module). is_among (map module_name (cons_option p rest)) a ≡ true) (sym e)
      (in-head a (module_name m) (map module_name rest) (sym named))

  keeps-it : (o : Option Module) (rest : List Module) → is_among (map module_name rest) a ≡ true →
      is_among (map module_name (cons_option o rest)) a ≡ true
  keeps-it None rest i = i
  keeps-it (Some k) rest i = in-tail a (module_name k) (map module_name rest) i

  in-level : (ns : List Name) → is_among ns a ≡ true →
      is_among (map module_name (modules_at ms (map (place g) ns))) a ≡ true
  in-level [] i = absurd (cc i)
  in-level (n ∷ ns) i = by_part (in-level ns) (in-cases a n ns i)
    where
      by_part : (is_among ns a ≡ true → is_among (map module_name (modules_at ms (map (place g) ns))) a ≡ true) →
          (a ≡ n) ⊎ (is_among ns a ≡ true) →
          is_among (map module_name (modules_at ms (map (place g) (n ∷ ns)))) a ≡ true
      by_part later (inl s) =
          gives-it (slice_get ms (place g n)) (modules_at ms (map (place g) ns))
          (subst (λ b. slice_get ms (place g b) ≡ Some m) s at)
      by_part later (inr j) =
          keeps-it (slice_get ms (place g n)) (modules_at ms (map (place g) ns)) (later j)

  in-levels : (nss : List (List Name)) → InSome a nss → Stands a (map (modules_at ms) (map (map (place g)) nss))
  in-levels [] s = s
  in-levels (ns ∷ more) (inl i) = inl (in-level ns i)
  in-levels (ns ∷ more) (inr s) = inr (in-levels more s)

-- ---- each of them is built
abbrev accepted_name : Accepted → Name
accepted_name A = A.exports.name

then-so : {A B : Type 0} (r : Answer A) (k : A → Answer B) (b : B) → (r >>= k) ≡ Ok b →
    (a : A) × (r ≡ Ok a) × (k a ≡ Ok b)
unfolding ◌>>=◌
then-so (Ok a) k b e = (a, refl, e)
then-so (Err r) k b e = absurd (cc e)

one-name : (m : Module) → scope.module_name m ≡ module_name m
one-name (module_text h n s is items) = refl

judged-named : (n : ℕ) (B : Built) (k : ℕ) (m : Module) (A : Accepted) → judged_at n B k m ≡ Ok A →
    accepted_name A ≡ module_name m
judged-named n B k m A e =
    let d =
    texts_are_judged_holds.accepted (numbered k) n (module_name m) (imports_for B.order m) B.globals m A e in
    ap accepted_name d.gives ∙ one-name m

all-named : (n : ℕ) (B : Built) (k : ℕ) (ms : List Module) (As : List Accepted) →
    all_accepted (answers n B k ms) ≡ Ok As → map accepted_name As ≡ map module_name ms
unfolding all_accepted
all-named n B k [] As e = let same : [] ≡ As = cc in sym (ap (map accepted_name) same)
all-named n B k (m ∷ ms) As e =
    let rest : Answer (List Accepted) = all_accepted (answers n B (suc k) ms) in
    let first = then-so (judged_at n B k m) (λ (A : Accepted). rest >>= λ (Cs : List Accepted). Ok (A ∷ Cs)) As e in
    let more = then-so rest (λ (Cs : List Accepted). Ok (first.0 ∷ Cs)) As first.2 in
    let same : first.0 ∷ more.0 ≡ As = (let h = more.2 in cc) in
    sym (ap (map accepted_name) same) ∙
    ap₂ (λ (x : Name) (xs : List Name). x ∷ xs) (judged-named n B k m first.0 first.1)
    (all-named n B (suc k) ms more.0 more.1)

-- one rank more
level-has : (a : Name) (n : ℕ) (B : Built) (level : List Module) (more : List (List Module)) (As : List Accepted) →
    judged_rank n B level ≡ Ok As → (is_among (map accepted_name B.order) a ≡ true) ⊎ Stands a (level ∷ more) →
    (is_among (map accepted_name (B.order ++ As)) a ≡ true) ⊎ Stands a more
level-has a n B level more As e h = by_part h
  where
    among : (is_among (map accepted_name B.order) a ≡ true) ⊎ (is_among (map accepted_name As) a ≡ true) →
        is_among (map accepted_name (B.order ++ As)) a ≡ true
    among i =
        subst (λ (ns : List Name). is_among ns a ≡ true) (sym (map-append accepted_name B.order As))
        (in-either a (map accepted_name B.order) (map accepted_name As) i)

    by_part : (is_among (map accepted_name B.order) a ≡ true) ⊎ Stands a (level ∷ more) →
        (is_among (map accepted_name (B.order ++ As)) a ≡ true) ⊎ Stands a more
    by_part (inl i) = inl (among (inl i))
    by_part (inr (inl i)) =
        inl (among (inr (subst (λ (ns : List Name). is_among ns a ≡ true)
        (sym (all-named n B (length B.order) level As e)) i)))
    by_part (inr (inr s)) = inr s

built-has : (a : Name) (n : ℕ) (levels : List (List Module)) (B C : Built) → built_by_rank n B levels ≡ Ok C →
    (is_among (map accepted_name B.order) a ≡ true) ⊎ Stands a levels →
    is_among (map accepted_name C.order) a ≡ true
unfolding built_by_rank
built-has a n [] B C e (inl i) =
    let same : B ≡ C = cc in subst (λ (X : Built). is_among (map accepted_name X.order) a ≡ true) same i
built-has a n [] B C e (inr s) = absurd s
built-has a n (level ∷ more) B C e h =
    let As = then-so (judged_rank n B level) (λ (Cs : List Accepted). built_by_rank n (with_rank B Cs) more) C e in
    built-has a n more (with_rank B As.0) C As.2 (level-has a n B level more As.0 As.1 h)

-- ---- and so are among them
named-any : (root : Name) (As : List Accepted) → is_among (map accepted_name As) root ≡ true →
    list_any (is_named root) As ≡ true
named-any root [] i = i
named-any root (A ∷ As) i = by_part (named-any root As) (in-cases root A.exports.name (map accepted_name As) i)
  where
    by_part : (is_among (map accepted_name As) root ≡ true → list_any (is_named root) As ≡ true) →
        (root ≡ A.exports.name) ⊎ (is_among (map accepted_name As) root ≡ true) →
        list_any (is_named root) (A ∷ As) ≡ true
    by_part later (inl e) = test.or_left (is_named root A) _ (same-as A.exports.name root (sym e))
    by_part later (inr j) = test.or_right (is_named root A) _ (later j)

-- ---- the named module
-- it stands first
record First (root : Name) (ms : List Module) : Type 0 where
  one : Module
  named : module_name one ≡ root
  at : slice_get ms (place (map header_of ms) root) ≡ Some one

stands-first : (root : Name) (ms : List Module) (more : List Name) → names (map header_of ms) ≡ root ∷ more →
    First root ms
stands-first root [] more e = absurd (cc e)
stands-first root (m ∷ ms) more e =
    let named : module_name m ≡ root = cc in
    record {
      one = m;
      named = named;
      at = ap
          (λ t. slice_get (m ∷ ms) (unwrap_or
          (cond t (Some 0) (option_map suc (place_among (names (map header_of ms)) root))) 0))
          (same-as root (module_name m) (sym named));
    }

-- without a ring the ranks are given
given-ranks : (o : Option (List Name)) (rs levels : List (List ℕ)) → unless o rs ≡ Ok levels →
    (o ≡ None) × (rs ≡ levels)
given-ranks None rs levels e = (refl, cc)
given-ranks (Some way) rs levels e = absurd (cc e)

pub root-among : LoadedAreBuilds → RanksAreAbove → (read : Name → Reading Module) (root : Name) (ms : List Module)
    (levels : List (List ℕ)) (n : ℕ) (B : Built) → ReadsAsNamed read → loaded read root ≡ Ok ms →
    ranks (map header_of ms) ≡ Ok levels → built_by_rank n nothing_yet (map (modules_at ms) levels) ≡ Ok B →
    list_any (is_named root) B.order ≡ true
root-among builds above read root ms levels n B named is told built =
    let g = map header_of ms in
    let b = builds.builds read root ms named is in
    let first = stands-first root ms b.first.0 b.first.1 in
    let there : is_among (names g) root ≡ true =
    subst (λ (ns : List Name). is_among ns root ≡ true) (sym b.first.1) (in-head root root b.first.0 refl) in
    let given = given-ranks (ring g) (ranked g) levels told in
    let r = above g (closed g b.whole) given.0 root there in
    let lower : r.0 < length g = rank-below g (length g) root r.0 r.1 in
    let within = ranked-in g root r.0 r.1 there 0 (length g) (omega arith) (omega arith) in
    let stands = subst (λ (ls : List (List ℕ)). Stands root (map (modules_at ms) ls)) given.1
    (in-levels ms g root first.one first.at first.named (by_rank g 0 (length g)) within) in
    named-any root B.order (built-has root n (map (modules_at ms) levels) nothing_yet B built (inr stands))
