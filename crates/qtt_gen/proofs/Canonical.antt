-- The texts are what the printer writes of their trees, line by line.
use Rattle.std.proofs.Common.{◌≡◌, ℕ, zero, suc, ℤ, pos, List, [], ◌∷◌, ◌++◌, map, codes, refl, ap, sym, ◌∙◌, append_assoc}
use Rattle.std.proofs.lemmas.Grind.{flat_map-append}
use Rattle.std.proofs.lemmas.List.{append-nil, map-append}
use Rattle.std.specs.Fmt.{decimal, signed_decimal, digits}
use Rattle.std.specs.List.{flat_map}
use Rattle.qtt_syntax.specs.Tree.{Item}
use Rattle.qtt_syntax.specs.Tree.Module.{module_text as tree}
use Rattle.qtt_syntax.specs.Tree.{statements}
use Rattle.qtt_syntax.specs.Tree.Statement.{run}
use Rattle.qtt_syntax.specs.Printing.{printed, item, more_statements, items, imports as import_words, expr}
use Rattle.qtt_syntax.specs.Words as words
use Rattle.qtt_syntax.specs.Words.{Printed, written_as}
use Rattle.qtt_syntax.specs.Words.Printed.{closed, line}
use Rattle.qtt_gen.specs.Generated.{next, module_name, module_text, main_text, written, header, value, side, step_text, function_name, proof_name, function_lines, proof_lines, import_lines, below}
use Rattle.qtt_gen.specs.Canonical.{nowhere, imports, import_names, module_tree, main_tree, function_items, proof_items, proof_type, main_items, main_clause, tree_of_line, tree_of_side, tree_of_step}
use Rattle.qtt_gen.specs.Laws.{Canonical}

-- ---- the digits that stand in every text
digit_0 : decimal 0 ≡ 48 ∷ []
unfolding digits
digit_0 = refl

digit_1 : decimal 1 ≡ 49 ∷ []
unfolding digits
digit_1 = refl

digit_3 : decimal 3 ≡ 51 ∷ []
unfolding digits
digit_3 = refl

-- ---- a printed text by its lines
words_append : (ps qs : List Printed) → words.written (ps ++ qs) ≡ words.written ps ++ words.written qs
words_append [] qs = refl
words_append (p ∷ ps) qs =
    ap (λ (v : List ℕ). written_as p ++ v) (words_append ps qs) ∙
    sym (append_assoc (written_as p) (words.written ps) (words.written qs))

abbrev import_text : List ℕ → List ℕ
import_text n = codes "import " ++ n

abbrev item_text : Item → List ℕ
item_text t = words.written (item t)

-- a new line before each
abbrev led : List (List ℕ) → List ℕ
led = flat_map (λ l. 10 ∷ l)

-- a new line before each and one at the end are one at the start and one behind each
led_written : (ls : List (List ℕ)) → led ls ++ 10 ∷ [] ≡ 10 ∷ written ls
led_written [] = refl
led_written (l ∷ ls) =
    ap (λ (v : List ℕ). 10 ∷ v) (append_assoc l (led ls) (10 ∷ []) ∙ ap (λ (v : List ℕ). l ++ v) (led_written ls) ∙
    sym (append_assoc l (10 ∷ []) (written ls)))

imports_led : (ns : List (List ℕ)) → words.written (import_words (imports ns)) ≡ led (map import_text ns)
imports_led [] = refl
imports_led (n ∷ ns) =
    ap (λ (v : List ℕ). codes "\nimport " ++ (n ++ v)) (imports_led ns)

items_led : (ts : List Item) → words.written (items ts) ≡ led (map item_text ts)
items_led [] = refl
items_led (t ∷ ts) =
    ap (λ (v : List ℕ). 10 ∷ v)
    (words_append (item t) (items ts) ∙ ap (λ (v : List ℕ). item_text t ++ v) (items_led ts))

lines_printed : (n : List ℕ) (ns : List (List ℕ)) (ts : List Item) →
    written (header n ∷ (map import_text ns ++ map item_text ts)) ≡ printed (tree nowhere n nowhere (imports ns) ts)
lines_printed n ns ts =
    let ls = map import_text ns ++ map item_text ts in
    let is : words.written (import_words (imports ns) ++ (items ts ++ closed ∷ line 0 ∷ [])) ≡ 10 ∷ written ls =
    words_append (import_words (imports ns)) (items ts ++ closed ∷ line 0 ∷ []) ∙
    ap (λ (v : List ℕ). words.written (import_words (imports ns)) ++ v)
    (words_append (items ts) (closed ∷ line 0 ∷ [])) ∙
    rw (imports_led ns, items_led ts)
    (sym (append_assoc (led (map import_text ns)) (led (map item_text ts)) (10 ∷ []))) ∙
    ap (λ (v : List ℕ). v ++ 10 ∷ []) (sym (flat_map-append (λ l. 10 ∷ l) (map import_text ns) (map item_text ts))) ∙
    led_written ls in
    append_assoc (header n) (10 ∷ []) (written ls) ∙ ap (λ (v : List ℕ). codes "module " ++ (n ++ v)) (sym is)

-- ---- the lines of a module
assoc_3 : (a b c d : List ℕ) → a ++ b ++ c ++ d ≡ a ++ (b ++ (c ++ d))
assoc_3 a b c d = simp append_assoc refl

assoc_4 : (a b c d e : List ℕ) → a ++ b ++ c ++ d ++ e ≡ a ++ (b ++ (c ++ (d ++ e)))
assoc_4 a b c d e = simp append_assoc refl

step_printed : (i j : ℕ) → step_text i j ≡ words.written (expr 0 (tree_of_step i j))
step_printed i j = rw (digit_3, append-nil) refl

side_printed : (i j : ℕ) → side i j ≡ words.written (expr 0 (tree_of_side i j))
side_printed zero j = step_printed 0 j
side_printed (suc i) j =
    rw digit_3 (assoc_3 (function_name i (next j)) (codes " (") (step_text (suc i) j) (codes ")"))

function_printed : (i j : ℕ) → function_lines i j ≡ map item_text (function_items i j (function_name i j))
function_printed i j =
    let f = function_name i j in
    ap (λ (l : List ℕ). (f ++ codes " : Int -> Int") ∷ l ∷ [])
    (append_assoc f (codes " x = ") (side i j) ∙ ap (λ (v : List ℕ). f ++ (codes " x = " ++ v)) (side_printed i j))

equation_printed : (v : ℤ) (f p : List ℕ) →
    p ++ codes " : Eq Int (" ++ f ++ codes " 0) " ++ signed_decimal v ≡ item_text (proof_type v f p)
equation_printed v f p =
    assoc_4 p (codes " : Eq Int (") f (codes " 0) ") (signed_decimal v) ∙ rw (digit_0, append-nil) refl

proof_printed : (i j : ℕ) →
    proof_lines i j ≡ map item_text (proof_items (value i j (pos 0)) (function_name i j) (proof_name i j))
proof_printed i j =
    ap (λ (l : List ℕ). l ∷ (proof_name i j ++ codes " = Refl") ∷ [])
    (equation_printed (value i j (pos 0)) (function_name i j) (proof_name i j))

imports_printed : (i j : ℕ) → import_lines i j ≡ map import_text (import_names i j)
imports_printed zero j = refl
imports_printed (suc i) j = refl

module_canonical : (i j : ℕ) → module_text i j ≡ printed (module_tree i j)
module_canonical i j =
    let f = function_items i j (function_name i j) in
    let p = proof_items (value i j (pos 0)) (function_name i j) (proof_name i j) in
    let ns = import_names i j in
    ap (λ (ls : List (List ℕ)). written (header (module_name i j) ∷ ls))
    (ap (λ (ls : List (List ℕ)). ls ++ (function_lines i j ++ proof_lines i j)) (imports_printed i j) ∙
    ap (λ (ls : List (List ℕ)). map import_text ns ++ ls)
    (ap (λ (ls : List (List ℕ)). ls ++ proof_lines i j) (function_printed i j) ∙
    ap (λ (ls : List (List ℕ)). map item_text f ++ ls) (proof_printed i j) ∙ sym (map-append item_text f p))) ∙
    lines_printed (module_name i j) ns (f ++ p)

-- ---- the lines of Main
abbrev call_line : List ℕ → List ℕ
call_line f = codes "  putLine (showInt (" ++ f ++ codes " 1))"

call_then : (f rest : List ℕ) → f ++ codes " 1))" ++ 10 ∷ [] ++ rest ≡ f ++ (codes " 1))" ++ 10 ∷ rest)
call_then f rest = simp append_assoc refl

-- each statement on a new line
abbrev calls : List (List ℕ) → List ℕ
calls fs = words.written (more_statements 2 (statements (map (λ f. run (tree_of_line f) nowhere) fs)))

calls_led : (fs : List (List ℕ)) → calls fs ++ 10 ∷ [] ≡ 10 ∷ written (map call_line fs)
calls_led [] = refl
calls_led (f ∷ fs) =
    rw digit_1 (ap (λ (v : List ℕ). codes "\n  putLine (showInt (" ++ v)
    (append_assoc f (codes " 1))" ++ calls fs) (10 ∷ []) ∙
    ap (λ (v : List ℕ). f ++ (codes " 1))" ++ v)) (calls_led fs) ∙ sym (call_then f (written (map call_line fs)))))

-- the first statement stands behind no mark
main_text_of : (f : List ℕ) (fs : List (List ℕ)) →
    item_text (main_clause (f ∷ fs)) ≡ codes "main = do" ++ calls (f ∷ fs)
main_text_of f fs =
    let more = more_statements 2 (statements (map (λ f. run (tree_of_line f) nowhere) fs)) in
    ap (λ (v : List ℕ). codes "main = do\n  putLine (showInt (" ++ (f ++ 32 ∷ (decimal 1 ++ (codes "))" ++ v))))
    (words_append more (closed ∷ []) ∙ append-nil (words.written more))

main_lines_printed : (f : List ℕ) (fs : List (List ℕ)) →
    written (codes "main : IO Unit" ∷ codes "main = do" ∷ map call_line (f ∷ fs)) ≡
    written (map item_text (main_items (f ∷ fs)))
main_lines_printed f fs =
    ap (λ (v : List ℕ). codes "main : IO Unit\nmain = do" ++ v) (sym (calls_led (f ∷ fs))) ∙
    ap (λ (v : List ℕ). codes "main : IO Unit\n" ++ (v ++ 10 ∷ [])) (sym (main_text_of f fs)) ∙
    ap (λ (v : List ℕ). codes "main : IO Unit\n" ++ v) (sym (append-nil (item_text (main_clause (f ∷ fs)) ++ 10 ∷ [])))

main_canonical : (i : ℕ) → main_text i ≡ printed (main_tree i)
main_canonical i =
    let ns = map (module_name i) (below 4) in
    let fs = map (function_name i) (below 4) in
    let lines = codes "main : IO Unit" ∷ codes "main = do" ∷ map call_line fs in
    let ended = λ (l : List ℕ). l ++ 10 ∷ [] in
    ap (λ (v : List ℕ). codes "module Main\n" ++ v)
    (flat_map-append ended (map import_text ns) lines ∙
    ap (λ (v : List ℕ). written (map import_text ns) ++ v)
    (main_lines_printed (function_name i 0) (function_name i 1 ∷ function_name i 2 ∷ function_name i 3 ∷ [])) ∙
    sym (flat_map-append ended (map import_text ns) (map item_text (main_items fs)))) ∙
    lines_printed (codes "Main") ns (main_items fs)

pub canonical : Canonical
canonical = record { of_module = module_canonical; of_main = main_canonical }
