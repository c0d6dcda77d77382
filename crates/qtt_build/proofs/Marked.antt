-- The signatures of a text's tree are marked 0 or not at all, and so those of all modules that are loaded.
use Rattle.std.proofs.Common.{◌≡◌, ◌≢◌, ℕ, zero, suc, Bool, true, false, cond, List, [], ◌∷◌, ◌++◌, map, Option, Some, None, Result, Ok, Err, bytes_eq, refl, ap, subst}
use Rattle.std.specs.Prelude.{All, IfSome, slice_get}
use Rattle.std.specs.List.{AllByRecursion, cons_option}
use Rattle.std.proofs.lemmas.List.Elements.{All-from_recursion, recursion_from_All}
use Rattle.qtt_base.specs.declared.limits.Quantity.TheVariants as quantity
use Rattle.qtt_usage.specs.declared.mult.Mult.TheVariants as mult
use Rattle.qtt_usage.specs.Mult.{𝟙}
use Rattle.qtt_lexer.specs.Lexed.{Mistake, lexed}
use Rattle.qtt_lexer.specs.declared.token.Token.{Token}
use Rattle.qtt_layout.specs.Rules.{laid}
use Rattle.qtt_layout.specs.declared.laid.Laid.{Laid}
use Rattle.qtt_syntax.specs.declared.expr.Local.{Local}
use Rattle.qtt_syntax.specs.Tree.{Item, Module}
use Rattle.qtt_phrase.specs.Phrase.{◌or◌, Above}
use Rattle.qtt_phrase.specs.Reading.{Read}
use Rattle.qtt_phrase.specs.Reading.Read.{got, bad, over}
use Rattle.qtt_grammar.specs.declared.class.Class.{Class}
use Rattle.qtt_grammar.specs.declared.class.Class.TheVariants as class
use Rattle.qtt_grammar.specs.declared.class.Pass.{Pass}
use Rattle.qtt_grammar.specs.declared.class.Pass.TheVariants.{Counts}
use Rattle.qtt_grammar.specs.declared.lexeme.Lexeme.{Lexeme}
use Rattle.qtt_grammar.specs.declared.stop.Excess.{Excess}
use Rattle.qtt_grammar.specs.Classes.{is_zero}
use Rattle.qtt_grammar.specs.Grammar.{Says, of, Level, IsZero, mult_of, levels, Place, Entry, start, clauses_before, next_place, family_of, partial_of, erased_of, signature_of, clause_of, second, import_of, items_of, module_of, IsFamily, Partial, Erased, Signing, Equation, Clause, Defining, IsItem, IsEntry, IsModule, IsText}
use Rattle.qtt_grammar.specs.Grammar.Entry.{imported, listed}
use Rattle.qtt_grammar.specs.Joined.{outcome_of, read_whole}
use Rattle.qtt_grammar.specs.Lexeme.{lexemes}
use Rattle.qtt_grammar.specs.Limits.{is_full, one_above}
use Rattle.qtt_grammar.specs.Outcome.{HasOutcome}
use Rattle.qtt_grammar.specs.Parsed.{whole, parsed}
use Rattle.qtt_grammar.proofs.Outcomes.{outcome_is_read}
use Rattle.qtt_reprint.proofs.Gives.{Each, Along, Gives, token_gives, chain_gives, ◌then_gives◌, made_gives, ◌or_gives◌, run_gives, perhaps_gives, up_to_gives}
use Rattle.qtt_graph.specs.Graph.{Name}
use Rattle.qtt_load.specs.Reading.{Reading, ◌>>=◌, fits, staged, has_name, tree_of_text, tree_of_module, read_text, Texts, read_in}
use Rattle.qtt_load.specs.Loading.{Stop, module_imports, mentioned, with_first, read_then, load, loaded}
use Rattle.qtt_module.specs.Declarations.{Declaration, with_clause, declarations}
use Rattle.qtt_module.specs.Text.{items_in}
use Rattle.qtt_accepted.specs.Stages.{Marked}
use Rattle.qtt_build.specs.Build.{modules_at}

abbrev pub IsMarked : Module → Type 0
IsMarked m = Marked (declarations (items_in m))

-- ---- items
abbrev HasMark : Item → Type 0
HasMark (Item.family n r ps t cs s) = Unit {0}
HasMark (Item.signature b q n r t s) = q ≢ 𝟙
HasMark (Item.clause n ps e s) = Unit {0}

abbrev HaveMarks : List Item → Type 0
HaveMarks [] = Unit {0}
HaveMarks (t ∷ more) = HasMark t × HaveMarks more

clause-marked : (n : List ℕ) (c : _) (ds : List Declaration) → Marked ds → Marked (with_clause n c ds)
clause-marked n c [] h = tt
clause-marked n c (Declaration.family m ps t cs ∷ ds) h = h
clause-marked n c (Declaration.signature b q m s t ∷ ds) h = h
clause-marked n c (Declaration.group m d ds ∷ more) h = by_test (bytes_eq n m)
  where
    by_test : (t : Bool) →
        Marked (cond t (Declaration.group n c (d ∷ ds) ∷ more)
        (Declaration.group n c [] ∷ Declaration.group m d ds ∷ more))
    by_test true = h
    by_test false = h

declarations-marked : (is : List Item) → HaveMarks is → Marked (declarations is)
declarations-marked [] h = tt
declarations-marked (Item.family n r ps t cs s ∷ is) h = declarations-marked is h.1
declarations-marked (Item.signature b q n r t s ∷ is) h = (h.0, declarations-marked is h.1)
declarations-marked (Item.clause n ps e s ∷ is) h =
    clause-marked n (record { patterns = ps; side = e; span = s }) (declarations is) (declarations-marked is h.1)

-- ---- the grammar
-- nothing is asked of tokens, and nothing is said of what is no mark
abbrev AnyToken : Lexeme → Type 0
AnyToken x = Unit {0}

all-tokens : (ls : List Lexeme) → Each AnyToken ls
all-tokens [] = tt
all-tokens (x ∷ ls) = (tt, all-tokens ls)

abbrev Holds : {A : Type 0} → Says A → (A → Type 0) → Type 0
Holds P R = Gives AnyToken P R

anything : {A : Type 0} {P : Says A} → Holds P (λ a. Unit {0})
anything = record { at = λ ls a fair d. tt }

zero-is : (c : Class) → is_zero c ≡ true → mult_of c ≢ 𝟙
zero-is class.Zero e = λ h. absurd cc
zero-is _ e = absurd cc

zero-mark : Holds IsZero (λ m. m ≢ 𝟙)
zero-mark =
    perhaps_gives mult.Many (λ h. absurd cc)
    (token_gives (of is_zero) (λ x. mult_of x.class) (λ x f e. zero-is x.class e))

module _ (pass : Pass) (top inner : Level) where
  family-holds : Holds (IsFamily pass top inner) HasMark
  family-holds = made_gives family_of anything (λ a r. tt)

  partial-holds : Holds (Partial pass top inner) HasMark
  partial-holds =
      made_gives partial_of (anything then_gives anything then_gives zero-mark then_gives anything) (λ a r. r.1.1.0)

  erased-holds : Holds (Erased pass top inner) HasMark
  erased-holds = made_gives erased_of anything (λ a r h. absurd cc)

  signing-holds : (n : Local) → Holds (Signing pass top inner n) HasMark
  signing-holds n = made_gives (signature_of n) anything (λ a r h. absurd cc)

  equation-holds : (n : Local) → Holds (Equation pass top inner n) HasMark
  equation-holds n = made_gives (clause_of n) anything (λ a r. tt)

  clause-at : (n : Local) (b : Bool) (fault : Lexeme → Excess) (ls : List Lexeme) (c : Item) → Each AnyToken ls →
      cond b (Above fault (Equation pass top inner n)) (Equation pass top inner n) ls c None → HasMark c
  clause-at n true fault ls c fair (x, r, o, parts, d, g) = absurd cc
  clause-at n false fault ls c fair d = (equation-holds n).at ls c fair d

  clause-holds : (at : Place) (n : Local) → Holds (Clause pass top inner at n) HasMark
  clause-holds at n = record {
    at = λ ls c fair d. clause-at n (is_full pass quantity.Clauses (clauses_before at n.name))
        (λ _. one_above quantity.Clauses n.span) ls c fair d;
  }

  defining-holds : (at : Place) → Holds (Defining pass top inner at) HasMark
  defining-holds at =
      made_gives second
      (chain_gives {S = λ n c. HasMark c} (λ n. Signing pass top inner n or Clause pass top inner at n) anything
      (λ n f. signing-holds n or_gives clause-holds at n))
      (λ a r. r.1)

  item-holds : (at : Place) → Holds (IsItem pass top inner at) HasMark
  item-holds at = family-holds or_gives partial-holds or_gives erased-holds or_gives defining-holds at

  abbrev EntryHasMark : Place → Entry → Type 0
  EntryHasMark at (imported j) = Unit {0}
  EntryHasMark at (listed t) = HasMark t

  entry-holds : (at : Place) → Holds (IsEntry pass top inner at) (EntryHasMark at)
  entry-holds at =
      made_gives second
      (anything then_gives (made_gives import_of anything (λ a r. tt) or_gives
      made_gives listed (up_to_gives pass quantity.Items at.items (item-holds at)) (λ a r. r.1)))
      (λ a r. r.1)

  entries-marked : (at : Place) (es : List Entry) → Along (λ _. true) (λ _. true) next_place EntryHasMark at es →
      HaveMarks (items_of es)
  entries-marked at [] e = tt
  entries-marked at (imported j ∷ more) (go, (f, e)) = entries-marked at more e
  entries-marked at (listed t ∷ more) (go, (f, e)) = (f, entries-marked (next_place at (listed t)) more e)

  module-holds : Holds (IsModule pass top inner) (λ m. HaveMarks (items_in m))
  module-holds =
      made_gives module_of
      (anything then_gives anything then_gives anything then_gives
      run_gives _ _ _ _ EntryHasMark entry-holds start then_gives anything)
      (λ a r. entries-marked start a.1.1.1.0 r.1.1.1.0)

-- ---- the tree of a text
whole-got : (r : Read Lexeme Excess Module) (t : Module) → whole r ≡ Ok t → r ≡ got t []
whole-got (got u []) t e = (let h : u ≡ t = (let g = e in cc) in ap (λ (v : Module). got v []) h)
whole-got (got u (x ∷ ls)) t e = absurd (let g = e in cc)
whole-got (bad k ls) t e = absurd (let g = e in cc)
whole-got (over f ls) t e = absurd (let g = e in cc)

parsed-text : (ms : List Laid) (t : Module) → parsed ms ≡ Ok t → IsText Counts (lexemes ms) t None
parsed-text ms t e =
    let ls = lexemes ms in
    let h : HasOutcome ls (outcome_of (got t [])) =
    subst (λ (r : Read Lexeme Excess Module). HasOutcome ls (outcome_of r)) (whole-got (read_whole ls) t e)
    (outcome_is_read ls) in
    h.0

tree-marked : (ms : List Laid) (t : Module) → parsed ms ≡ Ok t → IsMarked t
unfolding IsText
tree-marked ms t e =
    declarations-marked (items_in t)
    ((module-holds Counts (levels Counts 200) (levels Counts 199)).at (lexemes ms) t (all-tokens (lexemes ms))
    (parsed-text ms t e))

then-so : {A B : Type 0} (r : Reading A) (k : A → Reading B) (b : B) → (r >>= k) ≡ Ok b →
    (a : A) × (r ≡ Ok a) × (k a ≡ Ok b)
then-so (Ok a) k b e = (a, refl, e)
then-so (Err w) k b e = absurd (cc e)

staged-so : {A : Type 0} (r : Result A Mistake) (a : A) → staged r ≡ Ok a → r ≡ Ok a
staged-so (Ok b) a e = let same : b ≡ a = cc in ap Ok same
staged-so (Err m) a e = absurd (cc e)

text-marked : (text : List ℕ) (t : Module) → tree_of_text text ≡ Ok t → IsMarked t
unfolding tree_of_text
text-marked text t e =
    let trees : (List Laid → Reading Module) = λ (marks : List Laid). staged (parsed marks) in
    let lay : (List Token → Reading Module) = λ (tokens : List Token). staged (laid tokens) >>= trees in
    let short = then-so (fits text) (λ (u : Unit {0}). staged (lexed text) >>= lay) t e in
    let tokens = then-so (staged (lexed text)) lay t short.2 in
    let marks = then-so (staged (laid tokens.0)) trees t tokens.2 in
    tree-marked marks.0 t (staged-so (parsed marks.0) t marks.2)

module-marked : (asked : Name) (text : List ℕ) (t : Module) → tree_of_module asked text ≡ Ok t → IsMarked t
unfolding tree_of_module
module-marked asked text t e =
    let tree = then-so (tree_of_text text) (λ (m : Module). has_name asked m >>= λ (u : Unit {0}). Ok m) t e in
    let named = then-so (has_name asked tree.0) (λ (u : Unit {0}). Ok tree.0) t tree.2 in
    let same : tree.0 ≡ t = (let h = named.2 in cc) in
    subst IsMarked same (text-marked text tree.0 tree.1)

from-text : (a : Name) (text : Option (List ℕ)) (m : Module) → read_text a text ≡ Ok m → IsMarked m
from-text a None m e = absurd (cc e)
from-text a (Some text) m e = module-marked a text m e

pub read-marked : (texts : Texts) (a : Name) (m : Module) → read_in texts a ≡ Ok m → IsMarked m
read-marked texts a m e = from-text a (texts a) m e

-- ---- all that are loaded
abbrev AllMarked : Result (List Module) Stop → Type 0
AllMarked (Ok ms) = AllByRecursion IsMarked ms
AllMarked (Err s) = Unit {0}

load-marked : (read : Name → Reading Module) → ((a : Name) (m : Module) → read a ≡ Ok m → IsMarked m) →
    (root : Name) (n : ℕ) (known waiting : List Name) → AllMarked (load root read n known waiting)
load-marked read each root zero known [] = tt
load-marked read each root (suc n) known [] = tt
load-marked read each root zero known (a ∷ waiting) = tt
load-marked read each root (suc n) known (a ∷ waiting) =
    by_read (λ m. load-marked read each root n (known ++ mentioned known (module_imports m))
    (waiting ++ mentioned known (module_imports m))) (read a) refl
  where
    by_rest : (m : Module) → IsMarked m → (r : Result (List Module) Stop) → AllMarked r → AllMarked (with_first m r)
    by_rest m h (Ok ms) all = (h, all)
    by_rest m h (Err s) all = tt

    by_read : ((m : Module) → AllMarked (load root read n (known ++ mentioned known (module_imports m))
        (waiting ++ mentioned known (module_imports m)))) →
        (r : Reading Module) → read a ≡ r →
        AllMarked (read_then a r (λ m. load root read n (known ++ mentioned known (module_imports m))
        (waiting ++ mentioned known (module_imports m))))
    by_read later (Ok m) e = by_rest m (each a m e) _ (later m)
    by_read later (Err w) e = tt

pub loaded-marked : (texts : Texts) (root : Name) (ms : List Module) → loaded (read_in texts) root ≡ Ok ms →
    All IsMarked ms
unfolding loaded
loaded-marked texts root ms e =
    All-from_recursion IsMarked ms
    (subst AllMarked e (load-marked (read_in texts) (read-marked texts) root 1000 (root ∷ []) (root ∷ [])))

-- ---- what holds of each module holds of each rank's
module _ (P : Module → Type 0) where
  got-all : (ms : List Module) → AllByRecursion P ms → (k : ℕ) → IfSome (slice_get ms k) P
  got-all [] all k = tt
  got-all (m ∷ ms) all zero = all.0
  got-all (m ∷ ms) all (suc k) = got-all ms all.1 k

  more-all : (o : Option Module) (ms : List Module) → IfSome o P → AllByRecursion P ms →
      AllByRecursion P (cons_option o ms)
  more-all None ms h all = all
  more-all (Some m) ms h all = (h, all)

  places-all : (ms : List Module) → AllByRecursion P ms → (places : List ℕ) →
      AllByRecursion P (modules_at ms places)
  places-all ms all [] = tt
  places-all ms all (k ∷ places) =
      more-all (slice_get ms k) (modules_at ms places) (got-all ms all k) (places-all ms all places)

  ranks-all : (ms : List Module) → AllByRecursion P ms → (levels : List (List ℕ)) →
      AllByRecursion (All P) (map (modules_at ms) levels)
  ranks-all ms all [] = tt
  ranks-all ms all (places ∷ more) =
      (All-from_recursion P (modules_at ms places) (places-all ms all places), ranks-all ms all more)

  pub at-all : (ms : List Module) (levels : List (List ℕ)) → All P ms → All (All P) (map (modules_at ms) levels)
  at-all ms levels all =
      All-from_recursion (All P) (map (modules_at ms) levels) (ranks-all ms (recursion_from_All P ms all) levels)
