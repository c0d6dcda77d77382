-- What the words of the command line ask for. Words that ask for nothing get the usage line and status 64.
use Rattle.std.specs.Prelude.{ℕ, nat_le, ◌&&◌, Bool, if◌then◌else◌, List, [], ◌∷◌, map, length, Option, Some, None, Result, Ok, Err, option_map, option_and_then, codes, String, string_bytes}
use Rattle.std.specs.Char.{is_ascii_digit}
use Rattle.std.specs.List.{list_all}
use Rattle.std.specs.Str.{bytes_eq}
use Rattle.std.specs.Str.Parse.{digits_value}
use Rattle.std.specs.declared.alloc.Global.{Global}
use Rattle.qtt_lexer.specs.Lexed.{Mistake, lexed}
use Rattle.qtt_lexer.specs.declared.token.Token.{Token}
use Rattle.qtt_lexer.specs.declared.token.TokenKind.{TokenKind}
use Rattle.qtt_lexer.specs.declared.token.TokenKind.TheVariants as kind
use Rattle.qtt_words.specs.Sorting.{Word, Setting, Sorted, values_of, sorted}

-- ---- numbers
-- 1 to n ASCII digits
abbrev pub is_number : ℕ → Word → Bool
is_number n w = nat_le 1 (length w) && (nat_le (length w) n && list_all is_ascii_digit w)

-- the number that is written with at most n digits, where it is from 1 to `most`
abbrev pub number : ℕ → ℕ → Word → Option ℕ
number n most w =
    let value = digits_value 10 w in
    if is_number n w && (nat_le 1 value && nat_le value most) then Some value else None

-- ---- the name of a module
-- the word, where the token is the name that it is
abbrev pub named : Word → TokenKind → Option Word
named word (kind.Name name) = if bytes_eq name word then Some word else None
named word _ = None

-- the word, where the tokens are that name and the end
abbrev pub only_name : Word → List Token → Option Word
only_name word [] = None
only_name word (t ∷ []) = None
only_name word (t ∷ end ∷ []) = named word t.kind
only_name word (t ∷ end ∷ u ∷ more) = None

abbrev pub name_in : Word → Result (List Token) Mistake → Option Word
name_in word (Ok tokens) = only_name word tokens
name_in word (Err m) = None

-- the word, where it is a name, and no keyword and no wildcard
unfoldable pub module_name : Word → Option Word
module_name word = name_in word (lexed word)

-- ---- commands
pub data Work : Type 0 where
  check core code run : Word → Work
  -- over this number of generated modules
  gen : ℕ → Work

-- COMMAND MODULE, where `name_of` is the name of a module that a word is
abbrev pub work_named : (Word → Option Word) → Word → Word → Option Work
work_named name_of command w =
    if bytes_eq command (codes "check") then option_map Work.check (name_of w)
    else (if bytes_eq command (codes "core") then option_map Work.core (name_of w)
    else (if bytes_eq command (codes "code") then option_map Work.code (name_of w)
    else (if bytes_eq command (codes "run") then option_map Work.run (name_of w)
    else (if bytes_eq command (codes "gen") then option_map Work.gen (number 3 200 w)
    else None))))

abbrev pub work_of : (Word → Option Word) → List Word → Option Work
work_of name_of [] = None
work_of name_of (command ∷ []) = None
work_of name_of (command ∷ w ∷ []) = work_named name_of command w
work_of name_of (command ∷ w ∷ v ∷ more) = None

-- ---- options
abbrev pub greatest : Setting → ℕ
greatest Setting.steps = 4_000_000_000
greatest Setting.budget = 10_000_000
greatest Setting.jobs = 64

abbrev pub default : Setting → ℕ
default Setting.steps = 10_000_000
default Setting.budget = 100_000
default Setting.jobs = 1

-- the value of an option that may be left out, with one to ten digits
abbrev pub number_or : ℕ → ℕ → Option Word → Option ℕ
number_or default most None = Some default
number_or default most (Some v) = number 10 most v

-- an option stands at most once
abbrev pub given : Setting → List Word → Option ℕ
given o [] = number_or (default o) (greatest o) None
given o (v ∷ []) = number_or (default o) (greatest o) (Some v)
given o (v ∷ w ∷ more) = None

abbrev pub value_of : Setting → Sorted → Option ℕ
value_of o s = given o (values_of o s.options)

-- ---- the whole line
pub record Asked : Type 0 where
  pub work : Work
  pub steps : ℕ
  pub budget : ℕ
  pub jobs : ℕ

infixl 10 ◌>>=◌
abbrev pub ◌>>=◌ : {A B : Type 0} → Option A → (A → Option B) → Option B
a >>= k = option_and_then k a

-- what sorted words ask for
abbrev pub asked_of : (Word → Option Word) → Sorted → Option Asked
asked_of name_of s = do
  work ← work_of name_of s.plain
  steps ← value_of Setting.steps s
  budget ← value_of Setting.budget s
  jobs ← value_of Setting.jobs s
  Some (record { work = work; steps = steps; budget = budget; jobs = jobs })

abbrev pub asked_in : (Word → Option Word) → List Word → Option Asked
asked_in name_of words = sorted words >>= asked_of name_of

-- what the program's arguments ask for
abbrev pub asked : List (String Global) → Option Asked
asked words = asked_in module_name (map string_bytes words)
