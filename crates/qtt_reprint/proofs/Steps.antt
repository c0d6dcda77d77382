-- Printed words, one behind the other: what may stand behind each, and which blocks are open there.
use Rattle.std.proofs.Common.{◌≡◌, ℕ, suc, ◌+◌, ◌^◌, ◌<◌, ◌≤◌, nat_eq, ◌⊎◌, pos, negsuc, Bool, true, false, List, [], ◌∷◌, ◌++◌, None, refl, sym, subst, codes}
use Rattle.std.specs.Cmp.Lexicographic.{pointwise}
use Rattle.std.specs.Str.{IsUtf8, chars}
use Rattle.qtt_lexer.specs.Characters.{begins}
use Rattle.qtt_lexer.specs.Piece.{is_dash, names_hole, reserved}
use Rattle.qtt_lexer.specs.Forms.{IsName}
use Rattle.qtt_layout.specs.declared.block.Block.{Block}
use Rattle.qtt_layout.specs.declared.role.Role.{Role}
use Rattle.qtt_layout.specs.declared.role.Role.TheVariants as role
use Rattle.qtt_syntax.specs.Words.{Word, Printed}
use Rattle.qtt_syntax.specs.Words.Word.{sign, named, numeral, bare_type, type_at, quoted, hole_named}
use Rattle.qtt_syntax.specs.Words.Printed.{word, blank, line, opened, next, closed}
use Rattle.qtt_reprint.proofs.Gives.{Each}

-- ---- words that can be written

-- the characters of a name
pub record Names (cs : List ℕ) : Type 0 where
  pub head : ℕ
  pub tail : List ℕ
  pub are : cs ≡ head ∷ tail
  pub form : IsName head tail

pub record Named_well (n : List ℕ) : Type 0 where
  pub utf8 : IsUtf8 n
  pub names : Names (chars n)
  pub free : (reserved n ≡ None) ⊎ (n ≡ codes "_")

pub record Hole_well (n : List ℕ) : Type 0 where
  pub utf8 : IsUtf8 n
  pub names : Names (chars n)
  pub simple : names_hole n ≡ true

abbrev pub Fit : Word → Type 0
Fit (sign s) = Unit {0}
Fit (named n) = Named_well n
Fit (numeral (pos n)) = n < 2 ^ 63
Fit (numeral (negsuc n)) = suc n ≤ 2 ^ 63
Fit bare_type = Unit {0}
Fit (type_at l) = l < 2 ^ 63
Fit (quoted v) = IsUtf8 v
Fit (hole_named n) = Hole_well n

-- ---- what stands directly before

pub data Left : Type 0 where
  -- anything may follow
  free : Left
  -- a letter or a digit would go on with it
  wordy : Left
  -- `Type` without its level, and the same with blanks behind it
  typed : Left
  typed_blank : Left
  -- `{`, behind which a `-` would open a comment
  brace : Left

pub data Loose : Left → Type 0 where
  loose_free : Loose free
  loose_wordy : Loose wordy
  loose_typed : Loose typed

-- the same but for `Type`
pub data Untyped : Left → Type 0 where
  untyped_free : Untyped free
  untyped_wordy : Untyped wordy

pub data Blanked : Left → Type 0 where
  blanked_free : Blanked free
  blanked_typed : Blanked typed_blank

-- with a blank or a new line behind it
abbrev pub spaced : Left → Left
spaced free = free
spaced wordy = free
spaced typed = typed_blank
spaced typed_blank = typed_blank
spaced brace = free

pub data Sign : List ℕ → Left → Role → Type 0 where
  module_sign : Sign (codes "module") wordy role.Plain
  import_sign : Sign (codes "import") wordy role.Plain
  data_sign : Sign (codes "data") wordy role.Plain
  where_sign : Sign (codes "where") wordy role.Opener
  do_sign : Sign (codes "do") wordy role.Opener
  let_sign : Sign (codes "let") wordy role.Plain
  in_sign : Sign (codes "in") wordy role.Plain
  partial_sign : Sign (codes "partial") wordy role.Plain
  the_sign : Sign (codes "the") wordy role.Plain
  left_sign : Sign (codes "(") free role.LeftBracket
  dot_sign : Sign (codes ".(") free role.LeftBracket
  arrow_sign : Sign (codes "->") free role.Plain
  left_arrow_sign : Sign (codes "<-") free role.Plain
  fat_arrow_sign : Sign (codes "=>") free role.Plain
  colon_sign : Sign (codes ":") free role.Plain
  equals_sign : Sign (codes "=") wordy role.Plain
  backslash_sign : Sign (codes "\\") free role.Plain
  brace_sign : Sign (codes "{") brace role.Plain
  end_brace_sign : Sign (codes "}") free role.Plain

-- a word, what it is for the word behind it, and what for the layout
pub data IsWord : Word → Left → Role → Type 0 where
  a_sign : {s : List ℕ} {b : Left} {r : Role} → Sign s b r → IsWord (sign s) b r
  a_name : {n : List ℕ} → Fit (named n) → IsWord (named n) wordy role.Plain
  a_numeral : {z : _} → Fit (numeral z) → IsWord (numeral z) wordy role.Plain
  a_type : IsWord bare_type typed role.Plain
  a_level : {l : ℕ} → Fit (type_at l) → IsWord (type_at l) wordy role.Plain
  a_text : {v : List ℕ} → Fit (quoted v) → IsWord (quoted v) free role.Plain
  a_hole : {n : List ℕ} → Fit (hole_named n) → IsWord (hole_named n) wordy role.Plain

abbrev pub is_end_brace : Word → Bool
is_end_brace (sign s) = pointwise nat_eq s (codes "}")
is_end_brace (named n) = false
is_end_brace (numeral z) = false
is_end_brace bare_type = false
is_end_brace (type_at l) = false
is_end_brace (quoted v) = false
is_end_brace (hole_named n) = false

abbrev pub is_natural_word : Word → Bool
is_natural_word (sign s) = false
is_natural_word (named n) = false
is_natural_word (numeral (pos n)) = true
is_natural_word (numeral (negsuc n)) = false
is_natural_word bare_type = false
is_natural_word (type_at l) = false
is_natural_word (quoted v) = false
is_natural_word (hole_named n) = false

abbrev pub begins_with_dash : Word → Bool
begins_with_dash (sign s) = begins is_dash s
begins_with_dash (named n) = false
begins_with_dash (numeral (pos n)) = false
begins_with_dash (numeral (negsuc n)) = true
begins_with_dash bare_type = false
begins_with_dash (type_at l) = false
begins_with_dash (quoted v) = false
begins_with_dash (hole_named n) = false

-- the word may follow directly, but for `)`
abbrev pub Follows : Left → Word → Type 0
Follows free w = Unit {0}
Follows wordy w = is_end_brace w ≡ true
Follows typed w = is_end_brace w ≡ true
Follows typed_blank w = is_natural_word w ≡ false
Follows brace w = begins_with_dash w ≡ false

-- ---- blocks

pub data Mode : Type 0 where
  -- on the line of the word before, behind which these blocks closed, the newest last, and an empty one or not
  inline : Bool → List Block → Mode
  -- where a line's first word stands
  fresh : Mode
  -- behind `where` and `do`
  opener : Mode
  -- where their block opens
  opening : Mode
  -- before the line of a block's next item
  stepping : Bool → List Block → Mode
  -- behind so many blanks of a line that begins no item
  broken : ℕ → Bool → List Block → Mode

pub data Ready : Mode → Type 0 where
  ready_inline : Ready (inline false [])
  ready_fresh : Ready fresh

-- what stands before, the mode, the open blocks, the newest last, and how many brackets are open
pub data State : Type 0 where
  at : Left → Mode → List Block → ℕ → State

-- the newest of the blocks is so
pub record Under (P : Block → Type 0) (bs : List Block) : Type 0 where
  pub others : List Block
  pub newest : Block
  pub are : bs ≡ others ++ newest ∷ []
  pub is : P newest

abbrev pub block_at : ℕ → ℕ → Block
block_at col brackets = record { col = col; brackets = brackets }

-- a word or a mark leads from one state to another
pub data Step : State → Printed → State → Type 0 where
  plain_word : {l b : Left} {m : Mode} {bs : List Block} {k : ℕ} {w : Word} → Ready m → IsWord w b role.Plain →
      Follows l w
      → Step (at l m bs k) (word w) (at b (inline false []) bs k)
  opener_word : {l b : Left} {m : Mode} {bs : List Block} {k : ℕ} {w : Word} → Ready m → IsWord w b role.Opener →
      Follows l w
      → Step (at l m bs k) (word w) (at b opener bs k)
  left_bracket : {l b : Left} {m : Mode} {bs : List Block} {k : ℕ} {w : Word} → Ready m →
      IsWord w b role.LeftBracket → Follows l w
      → Step (at l m bs k) (word w) (at b (inline false []) bs (suc k))
  right_bracket : {l : Left} {shut bs : List Block} {k : ℕ} → Loose l → Each (λ x. suc k ≤ x.brackets) shut
      → Under (λ x. x.brackets ≤ k) bs
      → Step (at l (inline false shut) bs (suc k)) (word (sign (codes ")"))) (at free (inline false []) bs k)
  a_blank : {l : Left} {bs : List Block} {k : ℕ} →
      Step (at l (inline false []) bs k) blank (at (spaced l) (inline false []) bs k)
  breaks : {l : Left} {e : Bool} {shut bs : List Block} {k : ℕ} (n : ℕ)
      → Step (at l (inline e shut) bs k) (line n) (at (spaced l) (broken n e shut) bs k)
  resumes : {l : Left} {n : ℕ} {shut bs : List Block} {k : ℕ} → Each (λ x. n + 2 < x.col) shut →
      Under (λ x. x.col < n + 2) bs
      → Step (at l (broken n false shut) bs k) blank (at l fresh bs k)
  ends_item : {l : Left} {e : Bool} {shut bs : List Block} {k : ℕ} →
      Step (at l (inline e shut) bs k) next (at l (stepping e shut) bs k)
  begins_item : {l : Left} {e : Bool} {shut bs : List Block} {k n : ℕ} → Each (λ x. n + 1 < x.col) shut →
      Under (λ x. x.col ≡ n + 1) bs
      → Step (at l (stepping e shut) bs k) (line n) (at free fresh bs k)
  opens : {l : Left} {bs : List Block} {k : ℕ} → Step (at l opener bs k) opened (at l opening bs k)
  indents : {l : Left} {bs : List Block} {k n : ℕ} → Under (λ x. x.col < n + 1) bs
      → Step (at l opening bs k) (line n) (at free fresh (bs ++ block_at (n + 1) k ∷ []) k)
  empties : {l : Left} {bs : List Block} {k : ℕ} → Step (at l opening bs k) closed (at l (inline true []) bs k)
  shuts : {l : Left} {e : Bool} {shut bs others : List Block} {x : Block} {k : ℕ} → bs ≡ others ++ x ∷ []
      → Step (at l (inline e shut) bs k) closed (at l (inline e (x ∷ shut)) others k)

abbrev pub Runs : State → List Printed → State → Type 0
Runs s [] u = s ≡ u
Runs s (p ∷ ps) u = (v : State) × (Step s p v × Runs v ps u)

-- these words lead to a state of which R holds
pub record Goes (s : State) (ps : List Printed) (R : State → Type 0) : Type 0 where
  pub last : State
  pub runs : Runs s ps last
  pub is : R last

pub stays : {s : State} {R : State → Type 0} → R s → Goes s [] R
stays {s} r = record { last = s; runs = refl; is = r }

pub steps : {s v : State} {p : Printed} {ps : List Printed} {R : State → Type 0} → Step s p v → Goes v ps R →
    Goes s (p ∷ ps) R
steps {v} t g = record { last = g.last; runs = (v, (t, g.runs)); is = g.is }

runs-append : (s u v : State) (ps qs : List Printed) → Runs s ps u → Runs u qs v → Runs s (ps ++ qs) v
runs-append s u v [] qs e r = subst (λ (x : State). Runs x qs v) (sym e) r
runs-append s u v (p ∷ ps) qs (w, (t, e)) r = (w, (t, runs-append w u v ps qs e r))

pub goes_then : {s : State} {ps qs : List Printed} {R S : State → Type 0} → Goes s ps R →
    ((u : State) → R u → Goes u qs S)
    → Goes s (ps ++ qs) S
goes_then {s} {ps} {qs} g f =
    let h = f g.last g.is in record { last = h.last; runs = runs-append s g.last h.last ps qs g.runs h.runs; is = h.is }

pub goes_wider : {s : State} {ps : List Printed} {R S : State → Type 0} → Goes s ps R →
    ((u : State) → R u → S u) → Goes s ps S
goes_wider g f = record { last = g.last; runs = g.runs; is = f g.last g.is }
