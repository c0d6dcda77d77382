-- The blocks of the layout behind a printed word.
use Rattle.std.proofs.Common.{◌≡◌, ℕ, ◌+◌, ◌-◌, ◌<◌, ◌≤◌, ◌==◌, ◌&&◌, nat_lt, nat_le, Bool, true, false, cond, List, [], ◌∷◌, ◌++◌, map, length, take, reverse, Option, Some, slice_get, refl, sym, ap, subst, ◌∙◌, append_assoc, arith}
use Rattle.std.proofs.lemmas.Bool.Decides.{nat_tests}
use Rattle.std.proofs.lemmas.List.{append-nil, length-append, reverse-append, length-reverse}
use Rattle.std.proofs.Math.Seq.{take-append_seam, take-length}
use Rattle.std.specs.List.{prefix_len, suffix_len}
use Rattle.qtt_base.specs.declared.place.Span.{Span}
use Rattle.qtt_lexer.specs.declared.place.Place.{Place}
use Rattle.qtt_lexer.specs.declared.token.Token.{Token}
use Rattle.qtt_layout.specs.Rules as rules
use Rattle.qtt_layout.specs.Rules.{Put, newest, is_deeper, closes, without_newest, next_at, aligned, aligned_at, right_of, by_column}
use Rattle.qtt_layout.specs.declared.block.Block.{Block}
use Rattle.qtt_layout.specs.declared.laid.Laid.{Laid}
use Rattle.qtt_layout.specs.declared.laid.Laid.TheVariants.{Open, Next, Close, Tok}
use Rattle.qtt_syntax.specs.Words.{Printed}
use Rattle.qtt_syntax.specs.Words.Printed.{word, blank, line, opened, next, closed}
use Rattle.qtt_reprint.proofs.Gives.{Each}
use Rattle.qtt_reprint.proofs.Lexing.{lt_true}
use Rattle.qtt_reprint.proofs.LexedWords.{word_tokens}
use Rattle.qtt_reprint.proofs.Steps.{State, Under, block_at}
use Rattle.qtt_reprint.proofs.Steps.Step.{opens}
use Rattle.qtt_reprint.proofs.Written.{each_wider}

abbrev pub Shown : List Laid → List Printed → Type 0
Shown ms [] = ms ≡ []
Shown ms (word w ∷ ps) = (q : Place) × ((ns : List Laid) × ((ms ≡ map Tok (word_tokens q w) ++ ns) × Shown ns ps))
Shown ms (blank ∷ ps) = Shown ms ps
Shown ms (line n ∷ ps) = Shown ms ps
Shown ms (opened ∷ ps) = (s : Span) × ((ns : List Laid) × ((ms ≡ Open s ∷ ns) × Shown ns ps))
Shown ms (next ∷ ps) = (s : Span) × ((ns : List Laid) × ((ms ≡ Next s ∷ ns) × Shown ns ps))
Shown ms (closed ∷ ps) = (s : Span) × ((ns : List Laid) × ((ms ≡ Close s ∷ ns) × Shown ns ps))

-- these marks stand for what has been written
pub record Emits (ms : List Laid) (pre : List Printed) : Type 0 where
  pub shown : (ns : List Laid) (qs : List Printed) → Shown ns qs → Shown (ms ++ ns) (pre ++ qs)

pub emits_none : Emits [] []
emits_none = record { shown = λ ns qs h. h }

pub emits_append : (ms ns : List Laid) (ps qs : List Printed) → Emits ms ps → Emits ns qs → Emits (ms ++ ns) (ps ++ qs)
emits_append ms ns ps qs e f = record {
  shown = λ more rest h.
      subst (λ (v : List Laid). Shown v ((ps ++ qs) ++ rest)) (sym (append_assoc ms ns more))
      (subst (Shown (ms ++ (ns ++ more))) (sym (append_assoc ps qs rest))
      (e.shown (ns ++ more) (qs ++ rest) (f.shown more rest h)));
}

pub emits_blank : Emits [] (blank ∷ [])
emits_blank = record { shown = λ ns qs h. h }

pub emits_line : (n : ℕ) → Emits [] (line n ∷ [])
emits_line n = record { shown = λ ns qs h. h }

pub emits_opened : (s : Span) → Emits (Open s ∷ []) (opened ∷ [])
emits_opened s = record { shown = λ ns qs h. (s, (ns, (refl, h))) }

pub emits_next : (s : Span) → Emits (Next s ∷ []) (next ∷ [])
emits_next s = record { shown = λ ns qs h. (s, (ns, (refl, h))) }

pub emits_closed : (s : Span) → Emits (Close s ∷ []) (closed ∷ [])
emits_closed s = record { shown = λ ns qs h. (s, (ns, (refl, h))) }

-- what is written without a mark of its own
pub emits_more : (ms : List Laid) (pre : List Printed) (q : Printed) → Emits ms pre → Emits [] (q ∷ []) →
    Emits ms (pre ++ q ∷ [])
emits_more ms pre q e f =
    subst (λ (v : List Laid). Emits v (pre ++ q ∷ [])) (append-nil ms) (emits_append ms [] pre (q ∷ []) e f)

-- ---- the newest blocks

prefix_all : (p : Block → Bool) (xs : List Block) (y : Block) (ys : List Block) → Each (λ x. p x ≡ true) xs →
    p y ≡ false
    → prefix_len p (xs ++ y ∷ ys) ≡ length xs
prefix_all p [] y ys e f = ap (λ (b : Bool). cond b (1 + prefix_len p ys) 0) f
prefix_all p (x ∷ xs) y ys e f =
    ap (λ (b : Bool). cond b (1 + prefix_len p (xs ++ y ∷ ys)) 0) e.0 ∙ ap (λ (n : ℕ). 1 + n)
    (prefix_all p xs y ys e.1 f) ∙ omega arith

each_append : (P : Block → Type 0) (xs ys : List Block) → Each P xs → Each P ys → Each P (xs ++ ys)
each_append P [] ys e f = f
each_append P (x ∷ xs) ys e f = (e.0, each_append P xs ys e.1 f)

each_reverse : (P : Block → Type 0) (xs : List Block) → Each P xs → Each P (reverse xs)
each_reverse P [] e = tt
each_reverse P (x ∷ xs) e =
    subst (Each P) (sym (reverse-append (x ∷ []) xs))
    (each_append P (reverse xs) (x ∷ []) (each_reverse P xs e.1) (e.0, tt))

pub suffix_exact : (p : Block → Bool) (bs shut others : List Block) (b : Block) → bs ≡ others ++ b ∷ [] →
    Each (λ x. p x ≡ true) shut
    → p b ≡ false → suffix_len p (bs ++ shut) ≡ length shut
suffix_exact p bs shut others b e f g =
    ap (prefix_len p) (reverse-append bs shut ∙ ap (λ (v : List Block). reverse shut ++ v)
    (ap reverse e ∙ reverse-append others (b ∷ [])))
    ∙ prefix_all p (reverse shut) b (reverse others) (each_reverse (λ x. p x ≡ true) shut f) g
    ∙ length-reverse shut

pub without_exact : (bs shut : List Block) → without_newest (length shut) (bs ++ shut) ≡ bs
without_exact bs shut =
    let same : length (bs ++ shut) - length shut ≡ length bs = omega (arith, length-append bs shut) in
    ap (λ (n : ℕ). take n (bs ++ shut)) same ∙ take-append_seam bs shut

pub without_none : (bs : List Block) → without_newest 0 bs ≡ bs
without_none bs =
    let same : length bs - 0 ≡ length bs = omega arith in
    ap (λ (n : ℕ). take n bs) same ∙ take-length bs

get_last : (xs : List Block) (x : Block) → slice_get (xs ++ x ∷ []) (length xs) ≡ Some x
get_last [] x = refl
get_last (y ∷ xs) x = get_last xs x

newest_last : (bs others : List Block) (b : Block) → bs ≡ others ++ b ∷ [] → newest bs ≡ Some b
newest_last bs others b e =
    let same : length (others ++ b ∷ []) - 1 ≡ length others = omega (arith, length-append others (b ∷ [])) in
    ap newest e ∙ ap (slice_get (others ++ b ∷ [])) same ∙ get_last others b

-- the newest of the blocks and those that closed behind them
under_all : (P : Block → Type 0) (bs shut : List Block) → Under P bs → Each P shut → Under P (bs ++ shut)
under_all P bs [] u e = subst (Under P) (sym (append-nil bs)) u
under_all P bs (x ∷ shut) u e =
    subst (Under P) (append_assoc bs (x ∷ []) shut)
    (under_all P (bs ++ x ∷ []) shut (record { others = bs; newest = x; are = refl; is = e.0 }) e.1)

not_less : (n m : ℕ) → m ≤ n → nat_lt n m ≡ false
not_less n m h = grind (arith, nat_tests)

pub not_most : (n m : ℕ) → m < n → nat_le n m ≡ false
not_most n m h = grind (arith, nat_tests)

same_true : (n m : ℕ) → n ≡ m → (n == m) ≡ true
same_true n m h = grind (arith, nat_tests)

apart_false : (n m : ℕ) → (n ≡ m → ⊥) → (n == m) ≡ false
apart_false n m h = grind (arith, nat_tests)

-- ---- what the column of a token puts

-- an empty block that is awaited, and so many that close
abbrev pub due : Bool → ℕ → Span → List Laid
due e n s = cond e (Open s ∷ Close s ∷ []) [] ++ closes n s

column_by : (o l : Bool) (x y z : Option Put) → o ≡ false → l ≡ false → cond o x (cond l y z) ≡ z
column_by true l x y z e f = absurd cc
column_by false true x y z e f = absurd cc
column_by false false x y z e f = refl

line_by : (o l : Bool) (x y z : Option Put) → o ≡ false → l ≡ true → cond o x (cond l y z) ≡ y
line_by true l x y z e f = absurd cc
line_by false false x y z e f = absurd cc
line_by false true x y z e f = refl

open_by : (o : Bool) (x y : Option Put) → o ≡ true → cond o x y ≡ x
open_by true x y e = refl
open_by false x y e = absurd cc

abbrev pub some_put : List Laid → List Block → Option Put
some_put ms bs = Some (record { marks = ms; blocks = bs })

-- on the line of the token before
pub same_line : (ls : rules.State) (t : Token) (bs : List Block) → ls.blocks ≡ bs → ls.awaits ≡ false →
    t.span.line ≡ ls.line
    → by_column ls t ≡ some_put [] bs
same_line ls t bs b e f =
    line_by (rules.opens ls t) (t.span.line == ls.line) _ (some_put (rules.empty_block ls t.span) ls.blocks)
    (aligned_at ls t.span)
    (ap (λ (a : Bool). a && is_deeper t.span.col (newest ls.blocks)) e) (same_true t.span.line ls.line f)
    ∙ ap (λ (a : Bool). some_put (cond a (Open t.span ∷ Close t.span ∷ []) []) ls.blocks) e
    ∙ ap (some_put []) b

abbrev aligned_by : Bool → List Block → ℕ → Span → Option Put
aligned_by e blocks n span =
    aligned span (cond e (Open span ∷ Close span ∷ []) [] ++ closes n span) (without_newest n blocks)
    (newest (without_newest n blocks))

-- blocks that stand right of a token close, down to one that does not
aligned_put : (ls : rules.State) (span : Span) (e : Bool) (bs shut : List Block) (u : Under (λ x. x.col ≤ span.col) bs)
    → ls.blocks ≡ bs ++ shut → ls.awaits ≡ e → Each (λ x. span.col < x.col) shut
    → aligned_at ls span ≡ some_put (due e (length shut) span ++ next_at u.newest span) bs
aligned_put ls span e bs shut u b a d =
    let right : right_of span.col (bs ++ shut) ≡ length shut =
    suffix_exact (λ (x : Block). nat_lt span.col x.col) bs shut u.others u.newest u.are
    (each_wider {P = λ x. span.col < x.col} {Q = λ x. nat_lt span.col x.col ≡ true} shut
    (λ x h. lt_true span.col x.col h) d)
    (not_less span.col u.newest.col u.is) in
    ap (λ (v : List Block). aligned_by ls.awaits v (right_of span.col v) span) b
    ∙ ap (λ (v : Bool). aligned_by v (bs ++ shut) (right_of span.col (bs ++ shut)) span) a
    ∙ ap (λ (n : ℕ). aligned_by e (bs ++ shut) n span) right
    ∙ ap (λ (v : List Block). aligned span (due e (length shut) span) v (newest v)) (without_exact bs shut)
    ∙ ap (aligned span (due e (length shut) span) bs) (newest_last bs u.others u.newest u.are)

shallow : (col : ℕ) (bs : List Block) → Under (λ x. col ≤ x.col) bs → is_deeper col (newest bs) ≡ false
shallow col bs u = ap (is_deeper col) (newest_last bs u.others u.newest u.are) ∙ not_less u.newest.col col u.is

closed_block : (e a b : Bool) → e ≡ a → b ≡ false → (e && b) ≡ false
closed_block true a b f g = g
closed_block false a b f g = refl

-- at a line that begins an item of the newest block
pub next_put : (ls : rules.State) (t : Token) (e : Bool) (bs shut : List Block) → Under (λ x. x.col ≡ t.span.col) bs →
    ls.blocks ≡ bs ++ shut
    → ls.awaits ≡ e → Each (λ x. t.span.col < x.col) shut → ls.line < t.span.line
    → by_column ls t ≡ some_put (due e (length shut) t.span ++ Next t.span ∷ []) bs
next_put ls t e bs shut u b a d h =
    let upper : Under (λ x. x.col ≤ t.span.col) bs =
    record { others = u.others; newest = u.newest; are = u.are; is = omega (arith, u.is) } in
    let lower : Under (λ x. t.span.col ≤ x.col) bs =
    record { others = u.others; newest = u.newest; are = u.are; is = omega (arith, u.is) } in
    let not_deeper : is_deeper t.span.col (newest ls.blocks) ≡ false =
    ap (λ (v : List Block). is_deeper t.span.col (newest v)) b
    ∙ shallow t.span.col (bs ++ shut)
    (under_all (λ x. t.span.col ≤ x.col) bs shut lower
    (each_wider {P = λ x. t.span.col < x.col} {Q = λ x. t.span.col ≤ x.col} shut (λ x k. omega (arith, k)) d))
    in
    column_by (rules.opens ls t) (t.span.line == ls.line) _ _ (aligned_at ls t.span)
    (closed_block ls.awaits e _ a not_deeper)
    (apart_false t.span.line ls.line (λ k. omega (arith, h, k)))
    ∙ aligned_put ls t.span e bs shut upper b a d
    ∙ ap (λ (v : Bool). some_put (due e (length shut) t.span ++ cond v (Next t.span ∷ []) []) bs)
    (same_true u.newest.col t.span.col u.is)

-- at a line between the columns of the newest block and those that closed
pub between_put : (ls : rules.State) (t : Token) (bs shut : List Block) → Under (λ x. x.col < t.span.col) bs →
    ls.blocks ≡ bs ++ shut
    → ls.awaits ≡ false → Each (λ x. t.span.col < x.col) shut → ls.line < t.span.line
    → by_column ls t ≡ some_put (due false (length shut) t.span) bs
between_put ls t bs shut u b a d h =
    let upper : Under (λ x. x.col ≤ t.span.col) bs =
    record { others = u.others; newest = u.newest; are = u.are; is = omega (arith, u.is) } in
    column_by (rules.opens ls t) (t.span.line == ls.line) _ _ (aligned_at ls t.span)
    (ap (λ (v : Bool). v && is_deeper t.span.col (newest ls.blocks)) a)
    (apart_false t.span.line ls.line (λ k. omega (arith, h, k)))
    ∙ aligned_put ls t.span false bs shut upper b a d
    ∙ ap (λ (v : Bool). some_put (due false (length shut) t.span ++ cond v (Next t.span ∷ []) []) bs)
    (apart_false u.newest.col t.span.col (λ k. omega (arith, u.is, k)))
    ∙ ap (λ (v : List Laid). some_put v bs) (append-nil (due false (length shut) t.span))

-- where a block is awaited and the token stands right of the newest one
pub opening_put : (ls : rules.State) (t : Token) (bs : List Block) (k : ℕ) → Under (λ x. x.col < t.span.col) bs →
    ls.blocks ≡ bs
    → ls.awaits ≡ true → ls.brackets ≡ k →
    by_column ls t ≡ some_put (Open t.span ∷ []) (bs ++ block_at t.span.col k ∷ [])
opening_put ls t bs k u b a i =
    let deeper : is_deeper t.span.col (newest ls.blocks) ≡ true =
    ap (λ (v : List Block). is_deeper t.span.col (newest v)) b
    ∙ ap (is_deeper t.span.col) (newest_last bs u.others u.newest u.are)
    ∙ lt_true u.newest.col t.span.col u.is in
    open_by (rules.opens ls t) _ _ (ap (λ (v : Bool). v && is_deeper t.span.col (newest ls.blocks)) a ∙ deeper)
    ∙ ap (λ (v : List Block). some_put (Open t.span ∷ []) (v ++ block_at t.span.col ls.brackets ∷ [])) b
    ∙ ap (λ (n : ℕ). some_put (Open t.span ∷ []) (bs ++ block_at t.span.col n ∷ [])) i
