-- Reading, stage by stage.
use Rattle.std.proofs.Common.{◌≡◌, ◌<◌, ◌≤◌, ℕ, zero, suc, List, [], ◌∷◌, length, take, Ok, Err, refl, sym, ap, ◌∙◌, ◌⊎◌, inl, inr, arith}
use Rattle.std.proofs.lemmas.Bool.{cases_lt}
use Rattle.std.proofs.lemmas.Bool.Decides.{nat_tests}
use Rattle.std.proofs.lemmas.List.{length-take}
use Rattle.qtt_lexer.specs.Lexed.{lexed}
use Rattle.qtt_lexer.specs.declared.token.Token.{Token}
use Rattle.qtt_layout.specs.Rules.{laid}
use Rattle.qtt_layout.specs.declared.laid.Laid.{Laid}
use Rattle.qtt_grammar.specs.Parsed.{parsed}
use Rattle.qtt_syntax.specs.Tree.{Module}
use Rattle.qtt_graph.specs.Graph.{Name}
use Rattle.qtt_diag.specs.Kept.{detail}
use Rattle.qtt_load.specs.Reading.{Why, Reading, ◌>>=◌, staged, fits, too_long, tree_of_text, has_name, tree_of_module}
use Rattle.qtt_load.specs.Answer.{Gives, Says}
use Rattle.qtt_load.specs.declared.errors.TextError.{TextError}
use Rattle.qtt_load.specs.declared.errors.TextError.TheVariants as error

-- why the one has no value is why both have none
pub err_then : {A B : Type 0} (r : Reading A) (w : Why) (k : A → Reading B) → r ≡ Err w → (r >>= k) ≡ Err w
err_then r w k is = ap (λ (x : Reading _). x >>= k) is

pub ok_then : {A B : Type 0} (r : Reading A) (a : A) (k : A → Reading B) → r ≡ Ok a → (r >>= k) ≡ k a
ok_then r a k is = ap (λ (x : Reading _). x >>= k) is

fits_not : (text : List ℕ) → 1048576 < length text → fits text ≡ Err too_long
fits_not text long = grind (arith, nat_tests)

pub too_long_text : (text : List ℕ) → 1048576 < length text → tree_of_text text ≡ Err too_long
unfolding tree_of_text
too_long_text text long = err_then (fits text) too_long _ (fits_not text long)

too_long_to_read : (asked : Name) (text : List ℕ) → 1048576 < length text → tree_of_module asked text ≡ Err too_long
unfolding tree_of_module
too_long_to_read asked text long = err_then (tree_of_text text) too_long _ (too_long_text text long)

-- ---- what a stage answers is what the stages from it on give
pub says_so : {A B : Type 0} (view : A → B) (e : TextError) (w : Why) (answer : Reading B) → Says e w →
    answer ≡ Err w → Gives view (Err e) answer
says_so view error.Memory w answer says is = tt
says_so view (error.Refused s d) w answer says is = is ∙ ap Err (sym says)

pub by_fault : {A B C D : Type 0} (view : A → B) (other : C → D) (e : TextError) (outcome : Reading B)
    (k : B → Reading D) → Gives view (Err e) outcome → Gives other (Err e) (outcome >>= k)
by_fault view other error.Memory outcome k gives = tt
by_fault view other (error.Refused s d) outcome k gives = err_then outcome (Why.refused s (detail d)) k gives

fits_so : (text : List ℕ) → length text ≤ 1048576 → fits text ≡ Ok tt
fits_so text short = grind (arith, nat_tests)

abbrev behind_tokens : List Token → Reading Module
behind_tokens tokens = staged (laid tokens) >>= λ marks. staged (parsed marks)

pub at_tokens : (text : List ℕ) → length text ≤ 1048576 → tree_of_text text ≡ (staged (lexed text) >>= behind_tokens)
unfolding tree_of_text
at_tokens text short = ok_then (fits text) tt (λ u. staged (lexed text) >>= behind_tokens) (fits_so text short)

pub at_marks : (text : List ℕ) (tokens : List Token) → length text ≤ 1048576 → staged (lexed text) ≡ Ok tokens →
    tree_of_text text ≡ (staged (laid tokens) >>= λ marks. staged (parsed marks))
at_marks text tokens short is = at_tokens text short ∙ ok_then (staged (lexed text)) tokens behind_tokens is

pub at_tree : (text : List ℕ) (tokens : List Token) (marks : List Laid) → length text ≤ 1048576 →
    staged (lexed text) ≡ Ok tokens → staged (laid tokens) ≡ Ok marks → tree_of_text text ≡ staged (parsed marks)
at_tree text tokens marks short is are =
    at_marks text tokens short is ∙ ok_then (staged (laid tokens)) marks (λ marks. staged (parsed marks)) are

-- ---- the header's name
abbrev behind_tree : Name → Module → Reading Module
behind_tree asked m = has_name asked m >>= λ u. Ok m

pub at_name : (asked : Name) (text : List ℕ) (m : Module) → tree_of_text text ≡ Ok m →
    tree_of_module asked text ≡ behind_tree asked m
unfolding tree_of_module
at_name asked text m is = ok_then (tree_of_text text) m (behind_tree asked) is

pub at_end : (asked : Name) (text : List ℕ) (m : Module) → tree_of_text text ≡ Ok m → has_name asked m ≡ Ok tt →
    tree_of_module asked text ≡ Ok m
at_end asked text m is named = at_name asked text m is ∙ ok_then (has_name asked m) tt (λ u. Ok m) named

pub by_tree : {C : Type 0} (view : C → Module) (e : TextError) (asked : Name) (text : List ℕ) →
    Gives view (Err e) (tree_of_text text) → Gives view (Err e) (tree_of_module asked text)
unfolding tree_of_module
by_tree view e asked text gives = by_fault view view e (tree_of_text text) (behind_tree asked) gives

-- ---- a text whose front alone was read
take-all : (n : ℕ) (xs : List ℕ) → length xs ≤ n → take n xs ≡ xs
take-all zero [] le = refl
take-all (suc n) [] le = refl
take-all zero (x ∷ xs) le = absurd (omega arith)
take-all (suc n) (x ∷ xs) le = ap (λ l. x ∷ l) (take-all n xs (omega arith))

-- the first bytes of a text that are more than may be read are refused as the whole is
pub front_read : (asked : Name) (whole front : List ℕ) → take 1048577 whole ≡ front →
    tree_of_module asked front ≡ tree_of_module asked whole
front_read asked whole front is = by (cases_lt 1048576 (length whole))
  where
    by : (1048576 < length whole) ⊎ (length whole ≤ 1048576) →
        tree_of_module asked front ≡ tree_of_module asked whole
    by (inl long) =
        let count : length (take 1048577 whole) ≡ length front = ap length is in
        let front_long : 1048576 < length front = omega (arith, length-take 1048577 whole) in
        too_long_to_read asked front front_long ∙ sym (too_long_to_read asked whole long)
    by (inr short) = ap (tree_of_module asked) (sym is ∙ take-all 1048577 whole (omega arith))
