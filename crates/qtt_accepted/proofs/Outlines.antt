-- What is left of an item without its expressions and patterns: what its declarations are asked depends on it alone.
use Rattle.std.proofs.Common.{◌≡◌, ◌≢◌, ℕ, Bool, true, false, List, [], ◌∷◌, map, bytes_eq, Option, Some, None, cond, refl, sym, ap, subst, ◌∙◌}
use Rattle.std.proofs.lemmas.Bool.Decides.{Decides-eqb, same_from_decides}
use Rattle.std.proofs.lemmas.Slice.Eq.{bytes_eq-Decides, slice_eq-Decides}
use Rattle.qtt_usage.specs.declared.mult.Mult.{Mult}
use Rattle.qtt_usage.specs.Mult.{𝟙}
use Rattle.qtt_syntax.specs.Tree.{Item}
use Rattle.qtt_names.specs.Resolved.{goes_on}
use Rattle.qtt_names.specs.Scope.{same_name}
use Rattle.qtt_split.specs.Node.{Clause}
use Rattle.qtt_module.specs.Declarations.{Declaration, with_clause, declarations}
use Rattle.qtt_accepted.specs.Stages.{Marked, group_names, signature_names}

-- ---- what is asked of declarations
-- the marks of the signatures
abbrev pub signature_marks : List Declaration → List Mult
signature_marks [] = []
signature_marks (Declaration.family n ps t cs ∷ ds) = signature_marks ds
signature_marks (Declaration.signature b q n s t ∷ ds) = q ∷ signature_marks ds
signature_marks (Declaration.group n c cs ∷ ds) = signature_marks ds

-- the same signatures with the same marks, and the same groups of clauses, by their names
pub record SameHeads (ds es : List Declaration) : Type 0 where
  pub marks : signature_marks es ≡ signature_marks ds
  pub signatures : signature_names es ≡ signature_names ds
  pub groups : group_names es ≡ group_names ds

-- ---- outlines
pub data Outline : Type 0 where
  family : Outline
  signature : Mult → List ℕ → Outline
  clause : List ℕ → Outline

abbrev pub outline : Item → Outline
outline (Item.family n r ps t cs s) = Outline.family
outline (Item.signature b q n r t s) = Outline.signature q n
outline (Item.clause n ps e s) = Outline.clause n

abbrev pub outlines : List Item → List Outline
outlines = map outline

-- ---- what declarations take from it
abbrev pub marks : List Outline → List Mult
marks [] = []
marks (Outline.family ∷ os) = marks os
marks (Outline.signature q n ∷ os) = q ∷ marks os
marks (Outline.clause n ∷ os) = marks os

abbrev pub signed : List Outline → List (List ℕ)
signed [] = []
signed (Outline.family ∷ os) = signed os
signed (Outline.signature q n ∷ os) = n ∷ signed os
signed (Outline.clause n ∷ os) = signed os

-- the groups that begin, where the clause directly before is of this name
abbrev pub grouped : Option (List ℕ) → List Outline → List (List ℕ)
grouped last [] = []
grouped last (Outline.family ∷ os) = grouped None os
grouped last (Outline.signature q n ∷ os) = grouped None os
grouped last (Outline.clause n ∷ os) = cond (goes_on last n) (grouped (Some n) os) (n ∷ grouped (Some n) os)

-- ---- names
pub same-name : (n m : List ℕ) → same_name n m ≡ bytes_eq n m
same-name n m =
    same_from_decides (same_name n m) (bytes_eq n m) (slice_eq-Decides Decides-eqb n m (same_name n m) refl)
    (bytes_eq-Decides n m)

pub same-is : (n m : List ℕ) → same_name n m ≡ true → n ≡ m
same-is n m e = (bytes_eq-Decides n m).0 (sym (same-name n m) ∙ e)

pub same-self : (n : List ℕ) → same_name n n ≡ true
same-self n = same-name n n ∙ (bytes_eq-Decides n n).1 refl

-- the other way round
pub bytes-same : (n m : List ℕ) → bytes_eq n m ≡ same_name m n
bytes-same n m =
    same_from_decides (bytes_eq n m) (same_name m n) (bytes_eq-Decides n m)
    ((λ e. sym (same-is m n e)), λ e. subst (λ k. same_name m k ≡ true) (sym e) (same-self m))

-- ---- a clause in front
begins : (m : List ℕ) (d : Clause) (ds : List Declaration) →
    (es : List Clause) × (more : List Declaration) × (with_clause m d ds ≡ Declaration.group m d es ∷ more)
begins m d [] = ([], [], refl)
begins m d (Declaration.family n ps t cs ∷ ds) = ([], Declaration.family n ps t cs ∷ ds, refl)
begins m d (Declaration.signature b q n s t ∷ ds) = ([], Declaration.signature b q n s t ∷ ds, refl)
begins m d (Declaration.group n e es ∷ ds) = by_test (bytes_eq m n)
  where
    by_test : (b : Bool) → (fs : List Clause) × (more : List Declaration)
        × (cond b (Declaration.group m d (e ∷ es) ∷ ds) (Declaration.group m d [] ∷ Declaration.group n e es ∷ ds) ≡
        Declaration.group m d fs ∷ more)
    by_test true = (e ∷ es, ds, refl)
    by_test false = ([], Declaration.group n e es ∷ ds, refl)

clause-marks : (m : List ℕ) (d : Clause) (ds : List Declaration) →
    signature_marks (with_clause m d ds) ≡ signature_marks ds
clause-marks m d [] = refl
clause-marks m d (Declaration.family n ps t cs ∷ ds) = refl
clause-marks m d (Declaration.signature b q n s t ∷ ds) = refl
clause-marks m d (Declaration.group n e es ∷ ds) = by_test (bytes_eq m n)
  where
    by_test : (b : Bool) → signature_marks
        (cond b (Declaration.group m d (e ∷ es) ∷ ds) (Declaration.group m d [] ∷ Declaration.group n e es ∷ ds)) ≡
        signature_marks ds
    by_test true = refl
    by_test false = refl

clause-signatures : (m : List ℕ) (d : Clause) (ds : List Declaration) →
    signature_names (with_clause m d ds) ≡ signature_names ds
clause-signatures m d [] = refl
clause-signatures m d (Declaration.family n ps t cs ∷ ds) = refl
clause-signatures m d (Declaration.signature b q n s t ∷ ds) = refl
clause-signatures m d (Declaration.group n e es ∷ ds) = by_test (bytes_eq m n)
  where
    by_test : (b : Bool) → signature_names
        (cond b (Declaration.group m d (e ∷ es) ∷ ds) (Declaration.group m d [] ∷ Declaration.group n e es ∷ ds)) ≡
        signature_names ds
    by_test true = refl
    by_test false = refl

abbrev others : List (List ℕ) → List (List ℕ)
others [] = []
others (n ∷ ns) = ns

-- before a group that begins with m, and has these groups behind it
clause-groups : (n : List ℕ) (c : Clause) (m : List ℕ) (d : Clause) (ds : List Declaration) (ns : List (List ℕ)) →
    group_names (with_clause m d ds) ≡ m ∷ ns →
    group_names (with_clause n c (with_clause m d ds)) ≡ n ∷ cond (same_name m n) ns (m ∷ ns)
clause-groups n c m d ds ns e =
    let (es, more, h) = begins m d ds in
    ap (λ z. group_names (with_clause n c z)) h
    ∙ by_test es more (bytes_eq n m) (bytes-same n m) (ap others (sym (ap group_names h) ∙ e))
  where
    by_test : (es : List Clause) (more : List Declaration) (b : Bool) → b ≡ same_name m n → group_names more ≡ ns →
        group_names (cond b (Declaration.group n c (d ∷ es) ∷ more)
        (Declaration.group n c [] ∷ Declaration.group m d es ∷ more)) ≡ n ∷ cond (same_name m n) ns (m ∷ ns)
    by_test es more true t f = ap (λ l. n ∷ l) (f ∙ ap (λ b. cond b ns (m ∷ ns)) t)
    by_test es more false t f = ap (λ l. n ∷ l) (ap (λ l. m ∷ l) f ∙ ap (λ b. cond b ns (m ∷ ns)) t)

-- ---- declarations
pub marks-so : (is : List Item) → signature_marks (declarations is) ≡ marks (outlines is)
marks-so [] = refl
marks-so (Item.family n r ps t cs s ∷ is) = marks-so is
marks-so (Item.signature b q n r t s ∷ is) = ap (λ l. q ∷ l) (marks-so is)
marks-so (Item.clause n ps e s ∷ is) =
    clause-marks n (record { patterns = ps; side = e; span = s }) (declarations is) ∙ marks-so is

pub signatures-so : (is : List Item) → signature_names (declarations is) ≡ signed (outlines is)
signatures-so [] = refl
signatures-so (Item.family n r ps t cs s ∷ is) = signatures-so is
signatures-so (Item.signature b q n r t s ∷ is) = ap (λ l. n ∷ l) (signatures-so is)
signatures-so (Item.clause n ps e s ∷ is) =
    clause-signatures n (record { patterns = ps; side = e; span = s }) (declarations is) ∙ signatures-so is

mutual
  behind-clause : (n : List ℕ) (c : Clause) (is : List Item) →
      group_names (with_clause n c (declarations is)) ≡ n ∷ grouped (Some n) (outlines is)
  behind-clause n c [] = refl
  behind-clause n c (Item.family m r ps t cs s ∷ is) = ap (λ l. n ∷ l) (groups-so is)
  behind-clause n c (Item.signature b q m r t s ∷ is) = ap (λ l. n ∷ l) (groups-so is)
  behind-clause n c (Item.clause m ps e s ∷ is) =
      clause-groups n c m (record { patterns = ps; side = e; span = s }) (declarations is)
      (grouped (Some m) (outlines is)) (behind-clause m (record { patterns = ps; side = e; span = s }) is)

  pub groups-so : (is : List Item) → group_names (declarations is) ≡ grouped None (outlines is)
  groups-so [] = refl
  groups-so (Item.family n r ps t cs s ∷ is) = groups-so is
  groups-so (Item.signature b q n r t s ∷ is) = groups-so is
  groups-so (Item.clause n ps e s ∷ is) = behind-clause n (record { patterns = ps; side = e; span = s }) is

-- items with the same outlines declare the same heads
pub same-heads : (is js : List Item) → outlines js ≡ outlines is → SameHeads (declarations is) (declarations js)
same-heads is js e = record {
  marks = marks-so js ∙ ap marks e ∙ sym (marks-so is);
  signatures = signatures-so js ∙ ap signed e ∙ sym (signatures-so is);
  groups = groups-so js ∙ ap (grouped None) e ∙ sym (groups-so is);
}

-- ---- marks
abbrev pub Each : {A : Type 0} → (A → Type 0) → List A → Type 0
Each P [] = Unit {0}
Each P (x ∷ xs) = P x × Each P xs

abbrev pub NotOnce : Mult → Type 0
NotOnce q = q ≢ 𝟙

pub marked-all : (ds : List Declaration) → Marked ds → Each NotOnce (signature_marks ds)
marked-all [] m = tt
marked-all (Declaration.family n ps t cs ∷ ds) m = marked-all ds m
marked-all (Declaration.signature b q n s t ∷ ds) m = (m.0, marked-all ds m.1)
marked-all (Declaration.group n c cs ∷ ds) m = marked-all ds m

pub all-marked : (ds : List Declaration) → Each NotOnce (signature_marks ds) → Marked ds
all-marked [] m = tt
all-marked (Declaration.family n ps t cs ∷ ds) m = all-marked ds m
all-marked (Declaration.signature b q n s t ∷ ds) m = (m.0, all-marked ds m.1)
all-marked (Declaration.group n c cs ∷ ds) m = all-marked ds m

pub marks-stay : (ds es : List Declaration) → signature_marks es ≡ signature_marks ds → Marked ds → Marked es
marks-stay ds es e m = all-marked es (subst (Each NotOnce) (sym e) (marked-all ds m))
