-- The marks and tokens of printed words are, for the grammar, the words without their places.
use Rattle.std.proofs.Common.{◌≡◌, ℕ, suc, ◌==◌, ◌&&◌, nat_eq, pos, negsuc, Bool, true, false, cond, List, [], ◌∷◌, ◌++◌, map, refl, sym, ap, subst, ◌∙◌, codes}
use Rattle.std.proofs.lemmas.Str.{encodes-chars}
use Rattle.std.specs.Cmp.Lexicographic.{pointwise}
use Rattle.std.specs.Fmt as fmt
use Rattle.std.specs.Str.{chars, encode_utf8_all}
use Rattle.qtt_base.specs.declared.place.Span.{Span}
use Rattle.qtt_lexer.specs.Place.{place_after}
use Rattle.qtt_lexer.specs.Lexed.{token}
use Rattle.qtt_lexer.specs.declared.place.Place.{Place}
use Rattle.qtt_lexer.specs.declared.token.Token.{Token}
use Rattle.qtt_lexer.specs.declared.token.TokenKind.TheVariants as kind
use Rattle.qtt_layout.specs.Marks.{next_before, counted}
use Rattle.qtt_layout.specs.declared.role.Role.{Role}
use Rattle.qtt_layout.specs.declared.role.Role.TheVariants as role
use Rattle.qtt_layout.specs.declared.block.Block.{Block}
use Rattle.qtt_layout.specs.declared.laid.Laid.{Laid}
use Rattle.qtt_layout.specs.declared.laid.Laid.TheVariants.{Open, Next, Close, Tok}
use Rattle.qtt_syntax.specs.Words.{Word, Printed, spelled}
use Rattle.qtt_syntax.specs.Words.Word.{sign, named, numeral, bare_type, type_at, quoted, hole_named}
use Rattle.qtt_syntax.specs.Words.Printed.{word, opened, next, closed}
use Rattle.qtt_grammar.specs.Classes.{is_type, is_natural}
use Rattle.qtt_grammar.specs.declared.class.Class.{Class}
use Rattle.qtt_grammar.specs.declared.class.Class.TheVariants as class
use Rattle.qtt_grammar.specs.declared.lexeme.Lexeme.{Lexeme}
use Rattle.qtt_grammar.specs.Lexeme as lexeme
use Rattle.qtt_grammar.specs.Lexeme.{name_class, number_class, token_lexeme, lexeme_of, takes_number, joined, lexemes}
use Rattle.qtt_reprint.specs.Sketch.{nowhere, unplaced, word_lexeme, sketched}
use Rattle.qtt_reprint.proofs.FairTexts.{IsNamed, name_is}
use Rattle.qtt_reprint.proofs.FairTexts.IsNamed.{small, big, small_path, big_path}
use Rattle.qtt_reprint.proofs.Tokens.{IsNumber, number_is}
use Rattle.qtt_reprint.proofs.Tokens.IsNumber.{zero_class, one_class, natural_class, negative_class}
use Rattle.qtt_reprint.proofs.Forms.{same_names}
use Rattle.qtt_reprint.proofs.LexedWords.{word_token, word_tokens, Lexes, word_lexes}
use Rattle.qtt_reprint.proofs.WordBlocks.{Shown}
use Rattle.qtt_reprint.proofs.Steps.{Left, spaced, Sign, IsWord, Follows, Mode, State, Step, Runs, is_end_brace, is_natural_word}
use Rattle.qtt_reprint.proofs.Steps.Left.{free, wordy, typed, typed_blank}
use Rattle.qtt_reprint.proofs.Steps.Sign.{module_sign, import_sign, data_sign, where_sign, do_sign, let_sign, in_sign, partial_sign, the_sign, left_sign, dot_sign, arrow_sign, left_arrow_sign, fat_arrow_sign, colon_sign, equals_sign, backslash_sign, brace_sign, end_brace_sign}
use Rattle.qtt_reprint.proofs.Steps.IsWord.{a_sign, a_name, a_numeral, a_type, a_level, a_text, a_hole}
use Rattle.qtt_reprint.proofs.Steps.Mode.{inline, fresh, opener, opening, stepping, broken}
use Rattle.qtt_reprint.proofs.Steps.State.{at}
use Rattle.qtt_reprint.proofs.Steps.Step.{plain_word, opener_word, left_bracket, right_bracket, a_blank, breaks, resumes, ends_item, begins_item, opens, indents, empties, shuts}
use Rattle.qtt_reprint.proofs.WrittenItems.{Finished}
use Rattle.qtt_reprint.proofs.WrittenItems.Finished.{finished}

-- ---- each mark counts

abbrev Begins_token : List Laid → Type 0
Begins_token ms = (t : Token) × ((rest : List Laid) × (ms ≡ Tok t ∷ rest))

tokens_begin : (w : Word) (q : Place) (ms ns : List Laid) → ms ≡ map Tok (word_tokens q w) ++ ns → Begins_token ms
tokens_begin (sign s) q ms ns e = (_, (_, e))
tokens_begin (named n) q ms ns e = (_, (_, e))
tokens_begin (numeral z) q ms ns e = (_, (_, e))
tokens_begin bare_type q ms ns e = (_, (_, e))
tokens_begin (type_at l) q ms ns e = (_, (_, e))
tokens_begin (quoted v) q ms ns e = (_, (_, e))
tokens_begin (hole_named n) q ms ns e = (_, (_, e))

-- in a line that is not begun
abbrev is_broken : State → Bool
is_broken (at l (inline e shut) bs k) = false
is_broken (at l fresh bs k) = false
is_broken (at l opener bs k) = false
is_broken (at l opening bs k) = false
is_broken (at l (stepping e shut) bs k) = false
is_broken (at l (broken n e shut) bs k) = true

finished_broken : (u : State) → Finished u → is_broken u ≡ true
finished_broken u (finished l e shut) = refl

no_end : (s u : State) → s ≡ u → is_broken s ≡ false → Finished u → ⊥
no_end s u e f g = let h = sym f ∙ ap is_broken e ∙ finished_broken u g in cc

fresh_step : (l : Left) (bs : List Block) (k : ℕ) (q : Printed) (ps : List Printed) (v : State) (ms : List Laid)
    → Step (at l fresh bs k) q v → Shown ms (q ∷ ps) → Begins_token ms
fresh_step l bs k q ps v ms (plain_word {w} r i f) (p, (ns, (e, h))) = tokens_begin w p ms ns e
fresh_step l bs k q ps v ms (opener_word {w} r i f) (p, (ns, (e, h))) = tokens_begin w p ms ns e
fresh_step l bs k q ps v ms (left_bracket {w} r i f) (p, (ns, (e, h))) = tokens_begin w p ms ns e

fresh_token : (l : Left) (bs : List Block) (k : ℕ) (ps : List Printed) (u : State) (ms : List Laid) →
    Runs (at l fresh bs k) ps u
    → Finished u → Shown ms ps → Begins_token ms
fresh_token l bs k [] u ms e g h = absurd (no_end (at l fresh bs k) u e refl g)
fresh_token l bs k (q ∷ ps) u ms (v, (t, r)) g h = fresh_step l bs k q ps v ms t h

stepping_step : (l : Left) (e : Bool) (shut bs : List Block) (k : ℕ) (q : Printed) (ps : List Printed)
    (u v : State) (ms : List Laid)
    → Step (at l (stepping e shut) bs k) q v → Runs v ps u → Finished u → Shown ms (q ∷ ps) → Begins_token ms
stepping_step l e shut bs k q ps u v ms (begins_item {n} d w) r g h = fresh_token free bs k ps u ms r g h
stepping_step l e shut bs k q ps u v ms (plain_word i j f) r g h = elim i [ ]
stepping_step l e shut bs k q ps u v ms (opener_word i j f) r g h = elim i [ ]
stepping_step l e shut bs k q ps u v ms (left_bracket i j f) r g h = elim i [ ]

item_token : (l : Left) (e : Bool) (shut bs : List Block) (k : ℕ) (ps : List Printed) (u : State) (ms : List Laid)
    → Runs (at l (stepping e shut) bs k) ps u → Finished u → Shown ms ps → Begins_token ms
item_token l e shut bs k [] u ms r g h = absurd (no_end (at l (stepping e shut) bs k) u r refl g)
item_token l e shut bs k (q ∷ ps) u ms (v, (t, r)) g h = stepping_step l e shut bs k q ps u v ms t r g h

tokens_counted : (ts : List Token) (ns : List Laid) → counted ns ≡ ns → counted (map Tok ts ++ ns) ≡ map Tok ts ++ ns
tokens_counted [] ns e = e
tokens_counted (t ∷ ts) ns e = ap (λ (v : List Laid). Tok t ∷ v) (tokens_counted ts ns e)

shown_word : (w : Word) (ps : List Printed) (ms : List Laid) → Shown ms (word w ∷ ps) →
    ((ns : List Laid) → Shown ns ps → counted ns ≡ ns)
    → counted ms ≡ ms
shown_word w ps ms (q, (ns, (e, h))) rest = ap counted e ∙ tokens_counted (word_tokens q w) ns (rest ns h) ∙ sym e

pub shown_open : (ps : List Printed) (ms : List Laid) → Shown ms (opened ∷ ps) →
    ((ns : List Laid) → Shown ns ps → counted ns ≡ ns)
    → counted ms ≡ ms
shown_open ps ms (s, (ns, (e, h))) rest = ap counted e ∙ ap (λ (v : List Laid). Open s ∷ v) (rest ns h) ∙ sym e

shown_close : (ps : List Printed) (ms : List Laid) → Shown ms (closed ∷ ps) →
    ((ns : List Laid) → Shown ns ps → counted ns ≡ ns)
    → counted ms ≡ ms
shown_close ps ms (s, (ns, (e, h))) rest = ap counted e ∙ ap (λ (v : List Laid). Close s ∷ v) (rest ns h) ∙ sym e

next_kept : (s : Span) (ns : List Laid) → Begins_token ns → next_before s ns ≡ Next s ∷ ns
next_kept s ns (t, (rest, e)) = ap (next_before s) e ∙ ap (λ (v : List Laid). Next s ∷ v) (sym e)

shown_next : (ps : List Printed) (ms : List Laid) → Shown ms (next ∷ ps) →
    ((ns : List Laid) → Shown ns ps → Begins_token ns)
    → ((ns : List Laid) → Shown ns ps → counted ns ≡ ns) → counted ms ≡ ms
shown_next ps ms (s, (ns, (e, h))) begun rest =
    ap counted e ∙ ap (next_before s) (rest ns h) ∙ next_kept s ns (begun ns h) ∙ sym e

counted_step : (x : Printed) (ps : List Printed) (s u v : State) (ms : List Laid) → Step s x v → Runs v ps u →
    Finished u
    → Shown ms (x ∷ ps) → ((ns : List Laid) → Shown ns ps → counted ns ≡ ns) → counted ms ≡ ms
counted_step x ps s u v ms (plain_word {w} r i f) t g h rest = shown_word w ps ms h rest
counted_step x ps s u v ms (opener_word {w} r i f) t g h rest = shown_word w ps ms h rest
counted_step x ps s u v ms (left_bracket {w} r i f) t g h rest = shown_word w ps ms h rest
counted_step x ps s u v ms (right_bracket o d w) t g h rest = shown_word (sign (codes ")")) ps ms h rest
counted_step x ps s u v ms a_blank t g h rest = rest ms h
counted_step x ps s u v ms (breaks n) t g h rest = rest ms h
counted_step x ps s u v ms (resumes d w) t g h rest = rest ms h
counted_step x ps s u v ms (ends_item {l} {e} {shut} {bs} {k}) t g h rest =
    shown_next ps ms h (λ ns j. item_token l e shut bs k ps u ns t g j) rest
counted_step x ps s u v ms (begins_item d w) t g h rest = rest ms h
counted_step x ps s u v ms opens t g h rest = shown_open ps ms h rest
counted_step x ps s u v ms (indents w) t g h rest = rest ms h
counted_step x ps s u v ms empties t g h rest = shown_close ps ms h rest
counted_step x ps s u v ms (shuts e) t g h rest = shown_close ps ms h rest

-- no mark among those of printed words is idle
pub each_counts : (ps : List Printed) (s u : State) → Runs s ps u → Finished u →
    (ms : List Laid) → Shown ms ps → counted ms ≡ ms
each_counts [] s u e g ms h = ap counted h ∙ sym h
each_counts (x ∷ ps) s u (v, (t, r)) g ms h = counted_step x ps s u v ms t r g h (λ ns j. each_counts ps v u r g ns j)

-- ---- `Type` takes no number that stands apart

abbrev Unnumbered : List Lexeme → Type 0
Unnumbered [] = Unit {0}
Unnumbered (x ∷ ls) = is_natural x.class ≡ false

sign_unnumbered : {s : List ℕ} {b : Left} {r : Role} → Sign s b r → is_natural (word_lexeme (sign s)).class ≡ false
sign_unnumbered module_sign = refl
sign_unnumbered import_sign = refl
sign_unnumbered data_sign = refl
sign_unnumbered where_sign = refl
sign_unnumbered do_sign = refl
sign_unnumbered let_sign = refl
sign_unnumbered in_sign = refl
sign_unnumbered partial_sign = refl
sign_unnumbered the_sign = refl
sign_unnumbered left_sign = refl
sign_unnumbered dot_sign = refl
sign_unnumbered arrow_sign = refl
sign_unnumbered left_arrow_sign = refl
sign_unnumbered fat_arrow_sign = refl
sign_unnumbered colon_sign = refl
sign_unnumbered equals_sign = refl
sign_unnumbered backslash_sign = refl
sign_unnumbered brace_sign = refl
sign_unnumbered end_brace_sign = refl

cond_unnumbered : (b : Bool) (c d : Class) → is_natural c ≡ false → is_natural d ≡ false →
    is_natural (cond b c d) ≡ false
cond_unnumbered true c d e f = e
cond_unnumbered false c d e f = f

named_unnumbered : (c : Class) → IsNamed c → is_natural c ≡ false
named_unnumbered c small = refl
named_unnumbered c big = refl
named_unnumbered c small_path = refl
named_unnumbered c big_path = refl

negative_unnumbered : (ds : List ℕ) (n : ℕ) → is_natural (number_class (45 ∷ ds) (negsuc n)) ≡ false
negative_unnumbered [] n = refl
negative_unnumbered (d ∷ ds) n = refl

word_unnumbered : {w : Word} {b : Left} {r : Role} → IsWord w b r → is_natural_word w ≡ false →
    is_natural (word_lexeme w).class ≡ false
word_unnumbered (a_sign i) e = sign_unnumbered i
word_unnumbered (a_name {n} f) e =
    cond_unnumbered (pointwise nat_eq n (codes "_")) class.Wildcard (name_class n) refl
    (named_unnumbered (name_class n) (name_is n))
word_unnumbered (a_numeral {z = pos n} f) e = absurd cc
word_unnumbered (a_numeral {z = negsuc n} f) e = negative_unnumbered (fmt.decimal (suc n)) n
word_unnumbered a_type e = refl
word_unnumbered (a_level f) e = refl
word_unnumbered (a_text f) e = refl
word_unnumbered (a_hole f) e = refl

brace_no_number : (w : Word) → is_end_brace w ≡ true → is_natural_word w ≡ false
brace_no_number (sign s) e = refl
brace_no_number (named n) e = refl
brace_no_number (numeral z) e = absurd cc
brace_no_number bare_type e = refl
brace_no_number (type_at l) e = refl
brace_no_number (quoted v) e = refl
brace_no_number (hole_named n) e = refl

data Behind_type : Left → Type 0 where
  directly : Behind_type typed
  behind_blank : Behind_type typed_blank

data Calm : Mode → Type 0 where
  calm_inline : (e : Bool) (shut : List Block) → Calm (inline e shut)
  calm_fresh : Calm fresh
  calm_broken : (n : ℕ) (e : Bool) (shut : List Block) → Calm (broken n e shut)

spaced_type : (l : Left) → Behind_type l → Behind_type (spaced l)
spaced_type l directly = behind_blank
spaced_type l behind_blank = behind_blank

follows_no_number : (l : Left) (w : Word) → Behind_type l → Follows l w → is_natural_word w ≡ false
follows_no_number l w directly f = brace_no_number w f
follows_no_number l w behind_blank f = f

type_step : (l : Left) (m : Mode) (bs : List Block) (k : ℕ) (x : Printed) (ps : List Printed) (v : State) →
    Behind_type l → Calm m
    → Step (at l m bs k) x v
    → ((d : Left) (n : Mode) (cs : List Block) (j : ℕ) → v ≡ at d n cs j → Behind_type d → Calm n →
    Unnumbered (sketched ps))
    → Unnumbered (sketched (x ∷ ps))
type_step l m bs k x ps v b c (plain_word {w} r i f) rest = word_unnumbered i (follows_no_number l w b f)
type_step l m bs k x ps v b c (opener_word {w} r i f) rest = word_unnumbered i (follows_no_number l w b f)
type_step l m bs k x ps v b c (left_bracket {w} r i f) rest = word_unnumbered i (follows_no_number l w b f)
type_step l m bs k x ps v b c (right_bracket o d u) rest = refl
type_step l m bs k x ps v b c a_blank rest =
    rest (spaced l) (inline false []) bs k refl (spaced_type l b) (calm_inline false [])
type_step l m bs k x ps v b c (breaks {e} {shut} n) rest =
    rest (spaced l) (broken n e shut) bs k refl (spaced_type l b) (calm_broken n e shut)
type_step l m bs k x ps v b c (resumes d u) rest = rest l fresh bs k refl b calm_fresh
type_step l m bs k x ps v b c ends_item rest = refl
type_step l m bs k x ps v b c (shuts e) rest = refl
type_step l m bs k x ps v b c (begins_item d u) rest = elim c [ ]
type_step l m bs k x ps v b c opens rest = elim c [ ]
type_step l m bs k x ps v b c (indents u) rest = elim c [ ]
type_step l m bs k x ps v b c empties rest = elim c [ ]

type_unnumbered : (ps : List Printed) (l : Left) (m : Mode) (bs : List Block) (k : ℕ) (s u : State) →
    s ≡ at l m bs k → Behind_type l
    → Calm m → Runs s ps u → Unnumbered (sketched ps)
type_unnumbered [] l m bs k s u e b c r = tt
type_unnumbered (x ∷ ps) l m bs k s u e b c (v, (t, r)) =
    type_step l m bs k x ps v b c (subst (λ (y : State). Step y x v) e t)
    (λ d n cs j f g h. type_unnumbered ps d n cs j v u f g h r)

placed_unnumbered : (ls ws : List Lexeme) → map unplaced ls ≡ ws → Unnumbered ws → Unnumbered ls
placed_unnumbered [] ws e f = tt
placed_unnumbered (x ∷ ls) [] e f = absurd cc
placed_unnumbered (x ∷ ls) (w ∷ ws) e f =
    let same : unplaced x ≡ w = let h = e in cc in
    ap (λ (y : Lexeme). is_natural y.class) same ∙ f

-- ---- joining

join_case : (b : Bool) (x y : Lexeme) (ls : List Lexeme) → b ≡ false
    → cond b (record x { number = y.number; number_place = y.place } ∷ ls) (x ∷ y ∷ ls) ≡ x ∷ y ∷ ls
join_case true x y ls e = absurd cc
join_case false x y ls e = refl

joined_apart : (x : Lexeme) (ls : List Lexeme) → is_type x.class ≡ false → joined x ls ≡ x ∷ ls
joined_apart x [] e = refl
joined_apart x (y ∷ ls) e = join_case (takes_number x y) x y ls (ap (λ (b : Bool). b && is_natural y.class) e)

unnumbered_case : (a b : Bool) → b ≡ false → (a && b) ≡ false
unnumbered_case true b e = e
unnumbered_case false b e = refl

joined_type : (x : Lexeme) (ls : List Lexeme) → Unnumbered ls → joined x ls ≡ x ∷ ls
joined_type x [] e = refl
joined_type x (y ∷ ls) e =
    join_case (takes_number x y) x y ls (unnumbered_case (is_type x.class) (is_natural y.class) e)

joined_number : (x y : Lexeme) (ls : List Lexeme) → takes_number x y ≡ true
    → joined x (y ∷ ls) ≡ record x { number = y.number; number_place = y.place } ∷ ls
joined_number x y ls e = ap (λ (b : Bool). cond b (record x { number = y.number; number_place = y.place } ∷ ls)
    (x ∷ y ∷ ls)) e

-- ---- single words

-- a token is, for the grammar, the word without its place, and no `Type`
abbrev Apart : Lexeme → Word → Type 0
Apart x w = (unplaced x ≡ word_lexeme w) × (is_type x.class ≡ false)

sign_apart : {s : List ℕ} {b : Left} {r : Role} → Sign s b r →
    (q : Place) → Apart (lexeme_of (Tok (word_token q (sign s)))) (sign s)
sign_apart module_sign q = (refl, refl)
sign_apart import_sign q = (refl, refl)
sign_apart data_sign q = (refl, refl)
sign_apart where_sign q = (refl, refl)
sign_apart do_sign q = (refl, refl)
sign_apart let_sign q = (refl, refl)
sign_apart in_sign q = (refl, refl)
sign_apart partial_sign q = (refl, refl)
sign_apart the_sign q = (refl, refl)
sign_apart left_sign q = (refl, refl)
sign_apart dot_sign q = (refl, refl)
sign_apart arrow_sign q = (refl, refl)
sign_apart left_arrow_sign q = (refl, refl)
sign_apart fat_arrow_sign q = (refl, refl)
sign_apart colon_sign q = (refl, refl)
sign_apart equals_sign q = (refl, refl)
sign_apart backslash_sign q = (refl, refl)
sign_apart brace_sign q = (refl, refl)
sign_apart end_brace_sign q = (refl, refl)

named_no_type : (c : Class) → IsNamed c → is_type c ≡ false
named_no_type c small = refl
named_no_type c big = refl
named_no_type c small_path = refl
named_no_type c big_path = refl

abbrev named_lexeme : Bool → List ℕ → Span → List ℕ → Lexeme
named_lexeme b n s t = record (token_lexeme (cond b kind.Wildcard (kind.Name n)) s t) { found = t }

name_apart : (b : Bool) (n : List ℕ) (s : Span) (t : List ℕ) → pointwise nat_eq n (codes "_") ≡ b
    → (unplaced (named_lexeme b n s t) ≡ lexeme.word (cond b class.Wildcard (name_class n)) nowhere n)
    × (is_type (named_lexeme b n s t).class ≡ false)
name_apart true n s t e =
    (ap (λ (m : List ℕ). lexeme.word class.Wildcard nowhere m) (sym (same_names n (codes "_") e)), refl)
name_apart false n s t e = (refl, named_no_type (name_class n) (name_is n))

numbered_no_type : (c : Class) → IsNumber c → is_type c ≡ false
numbered_no_type c zero_class = refl
numbered_no_type c one_class = refl
numbered_no_type c natural_class = refl
numbered_no_type c negative_class = refl

number_no_type : (bs : List ℕ) (z : _) → is_type (number_class bs z) ≡ false
number_no_type bs z = numbered_no_type (number_class bs z) (number_is bs z)

word_text : (w : Word) (b : Left) → Lexes w b → encode_utf8_all (chars (spelled w)) ≡ spelled w
word_text w b x = encodes-chars (spelled w) x.utf8

number_apart : (z : _) (q : Place) → Lexes (numeral z) wordy →
    Apart (lexeme_of (Tok (word_token q (numeral z)))) (numeral z)
number_apart z q x = (
  ap (λ (v : List ℕ). unplaced (token_lexeme (kind.Number z) nowhere v)) (word_text (numeral z) wordy x),
  number_no_type (word_token q
      (numeral z)).text z,
)

apart_lexemes : (t : Token) (w : Word) (ns : List Laid) (ps : List Printed) → Apart (lexeme_of (Tok t)) w
    → map unplaced (lexemes ns) ≡ sketched ps → map unplaced (lexemes (Tok t ∷ ns)) ≡ word_lexeme w ∷ sketched ps
apart_lexemes t w ns ps f e =
    ap (map unplaced) (joined_apart (lexeme_of (Tok t)) (lexemes ns) f.1)
    ∙ ap (λ (x : Lexeme). x ∷ map unplaced (lexemes ns)) f.0
    ∙ ap (λ (v : List Lexeme). word_lexeme w ∷ v) e

type_lexemes : (q : Place) (ns : List Laid) (ps : List Printed) → Unnumbered (sketched ps) →
    map unplaced (lexemes ns) ≡ sketched ps
    → map unplaced (lexemes (Tok (word_token q bare_type) ∷ ns)) ≡ word_lexeme bare_type ∷ sketched ps
type_lexemes q ns ps u e =
    ap (map unplaced)
    (joined_type (lexeme_of (Tok (word_token q bare_type))) (lexemes ns)
    (placed_unnumbered (lexemes ns) (sketched ps) e u))
    ∙ ap (λ (v : List Lexeme). word_lexeme bare_type ∷ v) e

natural_case : (a b : Bool) → is_natural (cond a class.Zero (cond b class.One class.Natural)) ≡ true
natural_case true b = refl
natural_case false true = refl
natural_case false false = refl

number_natural : (bs : List ℕ) (n : ℕ) → is_natural (number_class bs (pos n)) ≡ true
number_natural [] n = refl
number_natural (b ∷ []) n = natural_case (b == 48) (b == 49)
number_natural (b ∷ c ∷ bs) n = refl

level_lexemes : (l : ℕ) (q : Place) (ns : List Laid) (ps : List Printed) → map unplaced (lexemes ns) ≡ sketched ps
    → map unplaced (lexemes (map Tok (word_tokens q (type_at l)) ++ ns)) ≡ word_lexeme (type_at l) ∷ sketched ps
level_lexemes l q ns ps e =
    let one = token kind.Type q (codes "Type") in
    let two = token (kind.Number (pos l)) (place_after q (codes "Type ")) (fmt.decimal l) in
    let x = lexeme_of (Tok one) in
    let y = lexeme_of (Tok two) in
    ap (λ (v : List Lexeme). map unplaced (joined x v)) (joined_apart y (lexemes ns) (number_no_type two.text (pos l)))
    ∙ ap (map unplaced) (joined_number x y (lexemes ns) (number_natural two.text l))
    ∙ ap (λ (v : List Lexeme). word_lexeme (type_at l) ∷ v) e

word_lexemes : {w : Word} {b : Left} {r : Role} → IsWord w b r → (q : Place) (ns : List Laid) (ps : List Printed)
    → (b ≡ typed → Unnumbered (sketched ps)) → map unplaced (lexemes ns) ≡ sketched ps
    → map unplaced (lexemes (map Tok (word_tokens q w) ++ ns)) ≡ word_lexeme w ∷ sketched ps
word_lexemes (a_sign {s} i) q ns ps u e = apart_lexemes (word_token q (sign s)) (sign s) ns ps (sign_apart i q) e
word_lexemes (a_name {n} f) q ns ps u e =
    apart_lexemes (word_token q (named n)) (named n) ns ps (name_apart (pointwise nat_eq n (codes "_")) n _ _ refl) e
word_lexemes (a_numeral {z} f) q ns ps u e =
    apart_lexemes (word_token q (numeral z)) (numeral z) ns ps (number_apart z q (word_lexes (a_numeral f))) e
word_lexemes a_type q ns ps u e = type_lexemes q ns ps (u refl) e
word_lexemes (a_level {l} f) q ns ps u e = level_lexemes l q ns ps e
word_lexemes (a_text {v} f) q ns ps u e = apart_lexemes (word_token q (quoted v)) (quoted v) ns ps (refl, refl) e
word_lexemes (a_hole {n} f) q ns ps u e =
    apart_lexemes (word_token q (hole_named n)) (hole_named n) ns ps (refl, refl) e

-- ---- all of them

shown_lexemes : {w : Word} {b : Left} {r : Role} → IsWord w b r → (ps : List Printed) (ms : List Laid)
    → (b ≡ typed → Unnumbered (sketched ps)) → Shown ms (word w ∷ ps)
    → ((ns : List Laid) → Shown ns ps → map unplaced (lexemes ns) ≡ sketched ps) →
    map unplaced (lexemes ms) ≡ word_lexeme w ∷ sketched ps
shown_lexemes i ps ms u (q, (ns, (e, h))) rest =
    ap (λ (v : List Laid). map unplaced (lexemes v)) e ∙ word_lexemes i q ns ps u (rest ns h)

right_lexemes : (ps : List Printed) (ms : List Laid) → Shown ms (word (sign (codes ")")) ∷ ps)
    → ((ns : List Laid) → Shown ns ps → map unplaced (lexemes ns) ≡ sketched ps)
    → map unplaced (lexemes ms) ≡ word_lexeme (sign (codes ")")) ∷ sketched ps
right_lexemes ps ms (q, (ns, (e, h))) rest =
    ap (λ (v : List Laid). map unplaced (lexemes v)) e
    ∙ apart_lexemes (word_token q (sign (codes ")"))) (sign (codes ")")) ns ps (refl, refl) (rest ns h)

pub open_lexemes : (ps : List Printed) (ms : List Laid) → Shown ms (opened ∷ ps)
    → ((ns : List Laid) → Shown ns ps → map unplaced (lexemes ns) ≡ sketched ps) →
    map unplaced (lexemes ms) ≡ sketched (opened ∷ ps)
open_lexemes ps ms (s, (ns, (e, h))) rest =
    ap (λ (v : List Laid). map unplaced (lexemes v)) e
    ∙ ap (map unplaced) (joined_apart (lexeme_of (Open s)) (lexemes ns) refl)
    ∙ ap (λ (v : List Lexeme). lexeme.sign class.Open nowhere ∷ v) (rest ns h)

next_lexemes : (ps : List Printed) (ms : List Laid) → Shown ms (next ∷ ps)
    → ((ns : List Laid) → Shown ns ps → map unplaced (lexemes ns) ≡ sketched ps) →
    map unplaced (lexemes ms) ≡ sketched (next ∷ ps)
next_lexemes ps ms (s, (ns, (e, h))) rest =
    ap (λ (v : List Laid). map unplaced (lexemes v)) e
    ∙ ap (map unplaced) (joined_apart (lexeme_of (Next s)) (lexemes ns) refl)
    ∙ ap (λ (v : List Lexeme). lexeme.sign class.Next nowhere ∷ v) (rest ns h)

close_lexemes : (ps : List Printed) (ms : List Laid) → Shown ms (closed ∷ ps)
    → ((ns : List Laid) → Shown ns ps → map unplaced (lexemes ns) ≡ sketched ps) →
    map unplaced (lexemes ms) ≡ sketched (closed ∷ ps)
close_lexemes ps ms (s, (ns, (e, h))) rest =
    ap (λ (v : List Laid). map unplaced (lexemes v)) e
    ∙ ap (map unplaced) (joined_apart (lexeme_of (Close s)) (lexemes ns) refl)
    ∙ ap (λ (v : List Lexeme). lexeme.sign class.Close nowhere ∷ v) (rest ns h)

opener_untyped : {w : Word} {b : Left} → IsWord w b role.Opener → b ≡ typed → ⊥
opener_untyped (a_sign where_sign) e = absurd cc
opener_untyped (a_sign do_sign) e = absurd cc

left_untyped : {w : Word} {b : Left} → IsWord w b role.LeftBracket → b ≡ typed → ⊥
left_untyped (a_sign left_sign) e = absurd cc
left_untyped (a_sign dot_sign) e = absurd cc

lexemes_step : (x : Printed) (ps : List Printed) (s u v : State) (ms : List Laid) → Step s x v → Runs v ps u →
    Shown ms (x ∷ ps)
    → ((ns : List Laid) → Shown ns ps → map unplaced (lexemes ns) ≡ sketched ps) →
    map unplaced (lexemes ms) ≡ sketched (x ∷ ps)
lexemes_step x ps s u v ms (plain_word {l} {b} {m} {bs} {k} {w} r i f) t h rest =
    shown_lexemes i ps ms
    (λ e. type_unnumbered ps typed (inline false []) bs k (at b (inline false []) bs k) u
    (ap (λ (y : Left). at y (inline false []) bs k) e) directly (calm_inline false []) t)
    h rest
lexemes_step x ps s u v ms (opener_word {w} r i f) t h rest =
    shown_lexemes i ps ms (λ e. absurd (opener_untyped i e)) h rest
lexemes_step x ps s u v ms (left_bracket {w} r i f) t h rest =
    shown_lexemes i ps ms (λ e. absurd (left_untyped i e)) h rest
lexemes_step x ps s u v ms (right_bracket o d w) t h rest = right_lexemes ps ms h rest
lexemes_step x ps s u v ms a_blank t h rest = rest ms h
lexemes_step x ps s u v ms (breaks n) t h rest = rest ms h
lexemes_step x ps s u v ms (resumes d w) t h rest = rest ms h
lexemes_step x ps s u v ms ends_item t h rest = next_lexemes ps ms h rest
lexemes_step x ps s u v ms (begins_item d w) t h rest = rest ms h
lexemes_step x ps s u v ms opens t h rest = open_lexemes ps ms h rest
lexemes_step x ps s u v ms (indents w) t h rest = rest ms h
lexemes_step x ps s u v ms empties t h rest = close_lexemes ps ms h rest
lexemes_step x ps s u v ms (shuts e) t h rest = close_lexemes ps ms h rest

-- the marks and tokens of words that lead from state to state are, for the grammar, the words without their
-- places
pub lexemes_shown : (ps : List Printed) (s u : State) → Runs s ps u → (ms : List Laid) → Shown ms ps
    → map unplaced (lexemes ms) ≡ sketched ps
lexemes_shown [] s u e ms h = ap (λ (v : List Laid). map unplaced (lexemes v)) h
lexemes_shown (x ∷ ps) s u (v, (t, r)) ms h = lexemes_step x ps s u v ms t r h (λ ns j. lexemes_shown ps v u r ns j)
