-- Worked examples of words.
use Prim.Native.String.{String}
use Rattle.std.specs.Prelude.{◌≡◌, ℕ, ◌==◌, if◌then◌else◌, Bool, true, false, List, [], ◌∷◌, map, Option, Some, None, codes}
use Rattle.clap.specs.Walk.{is_empty}
use Rattle.clap.specs.Takes.{takes}
use Rattle.clap.specs.Faults.{is_simple_and_free, fault_of}
use Rattle.qtt_words.specs.Sorting.{Word, sorted, is_line}
use Rattle.qtt_words.specs.Asked.{Work, Asked, ◌>>=◌, module_name, asked_of, asked_in}
use Rattle.qtt_words.specs.Clap.{qtt_app, sorted_by_clap}

-- a byte before the first of words
abbrev pub before : ℕ → List Word → List Word
before c [] = (c ∷ []) ∷ []
before c (w ∷ ws) = (c ∷ w) ∷ ws

abbrev pub cut : Word → List Word
cut [] = [] ∷ []
cut (c ∷ cs) = if c == 32 then [] ∷ cut cs else before c (cut cs)

-- the words that are written with a blank between each two
abbrev pub line : String → List Word
line text = cut (codes text)

-- any word is taken for a name here
abbrev pub read : String → Option Asked
read text = asked_in Some (line text)

abbrev pub with_bounds : Work → ℕ → ℕ → ℕ → Option Asked
with_bounds w steps budget jobs = Some (record { work = w; steps = steps; budget = budget; jobs = jobs })

-- with the default steps, budget and jobs
abbrev pub plainly : Work → Option Asked
plainly w = with_bounds w 10_000_000 100_000 1

abbrev pub main : Word
main = codes "Main"

pub record WordRows : Type 0 where
  pub nothing : asked_in Some [] ≡ None
  pub run_alone : read "run" ≡ None
  pub fly : read "fly Main" ≡ None
  pub too_many : read "check Main Main" ≡ None
  pub jobs_65 : read "run Main --jobs 65" ≡ None
  pub check : read "check Main" ≡ plainly (Work.check main)
  pub steps : read "run Main --steps 6" ≡ with_bounds (Work.run main) 6 100_000 1
  -- anywhere, in any order, and with `=`
  pub anywhere : read "--jobs=8 core --budget 0003 Main --steps=4000000000"
      ≡ with_bounds (Work.core main) 4_000_000_000 3 8
  pub twice : read "check Main --jobs=1 --jobs=1" ≡ None
  pub shortened : read "check Main --job 1" ≡ None
  pub no_value : read "check Main --jobs" ≡ None
  pub empty_value : read "check Main --jobs=" ≡ None
  pub zero : read "check Main --jobs=0" ≡ None
  pub signed : read "check Main --jobs=+1" ≡ None
  pub eleven_digits : read "check Main --jobs=00000000001" ≡ None
  pub too_many_steps : read "check Main --steps=4000000001" ≡ None
  -- behind `--` each word is plain
  pub ended : read "--jobs=2 -- check Main" ≡ with_bounds (Work.check main) 10_000_000 100_000 2
  pub option_behind_end : read "check -- Main --jobs=2" ≡ None
  pub help : read "--help" ≡ None
  -- a name is tested, and the number of `gen` is
  pub no_name : asked_in (λ w. None) (line "check Main") ≡ None
  pub gen_7 : read "gen 7" ≡ plainly (Work.gen 7)
  pub gen_200 : read "gen 200" ≡ plainly (Work.gen 200)
  pub gen_0 : read "gen 0" ≡ None
  pub gen_201 : read "gen 201" ≡ None
  pub gen_007 : read "gen 007" ≡ plainly (Work.gen 7)
  pub gen_0007 : read "gen 0007" ≡ None

-- ---- names of modules
abbrev pub is_itself : Word → Type 0
is_itself w = module_name w ≡ Some w

pub record NameRows : Type 0 where
  pub of_one_part : is_itself (codes "Main")
  pub of_two_parts : is_itself (codes "Data.lists_2'")
  pub dot_at_end : module_name (codes "Main.") ≡ None
  pub blank_behind : module_name (codes "Main ") ≡ None
  pub wildcard : module_name (codes "_") ≡ None
  pub keyword : module_name (codes "Type") ≡ None
  pub begins_with_digit : module_name (codes "7") ≡ None
  pub empty : module_name [] ≡ None

-- ---- lines that the crate `clap` takes, by its own definitions, and others; an empty word stands behind a last blank
abbrev pub taken_lines : List (List Word)
taken_lines =
    line "check Main" ∷ line "check Main --steps 5" ∷ line "check Main --steps=5" ∷ line "check Main --steps="
    ∷ line "check Main --steps " ∷ line "--steps 5 check Main" ∷ line "check --steps 5 Main" ∷ line "-- check Main"
    ∷ line "check -- Main" ∷ line "check Main --" ∷ line "check -- --" ∷ line "check Main --steps=-5"
    ∷ line "check Main --steps -" ∷ line "- Main" ∷ line "help Main" ∷ line " " ∷ line "check Main --steps==5"
    ∷ line "check Main --jobs 2 --budget 3 --steps 4" ∷ line "--jobs 2 -- check Main" ∷ line "check Main --jobs=--" ∷ []

abbrev pub refused_lines : List (List Word)
refused_lines =
    [] ∷ line "run" ∷ line "check Main Main" ∷ line "check Main --steps" ∷ line "check Main --steps 5 --steps 6"
    ∷ line "check Main --step 5" ∷ line "check Main --steps5" ∷ line "check Main -- --steps" ∷ line "check -- -- Main"
    ∷ line "--steps -- check Main" ∷ line "check Main --steps -- 5" ∷ line "check Main --steps -5"
    ∷ line "check Main --steps --budget 5" ∷ line "check -x" ∷ line "-h" ∷ line "--help" ∷ line "check Main --version"
    ∷ line "check Main ---" ∷ line "check Main --=5" ∷ line "check Main --Steps 5" ∷ line "check Main --steps 5 6" ∷ []

abbrev pub always : Bool → List (List Word) → List Bool
always b = map (λ ws. b)

pub record ClapRows : Type 0 where
  -- its contract is exact for this command line, in both outcomes
  pub exact : is_simple_and_free qtt_app ≡ true
  pub takes_these : map (takes qtt_app) taken_lines ≡ always true taken_lines
  pub lines : map (λ ws. is_line (sorted ws)) taken_lines ≡ always true taken_lines
  pub refuses_these : map (takes qtt_app) refused_lines ≡ always false refused_lines
  pub no_lines : map (λ ws. is_line (sorted ws)) refused_lines ≡ always false refused_lines
  -- where it takes a line it has no fault for it, and elsewhere one
  pub without_fault : map (λ ws. is_empty (fault_of qtt_app ws)) taken_lines ≡ always true taken_lines
  pub with_fault : map (λ ws. is_empty (fault_of qtt_app ws)) refused_lines ≡ always false refused_lines
  -- what the words ask for is the same, by its matches and by the definition
  pub same : map (λ ws. sorted_by_clap ws >>= asked_of Some) taken_lines ≡ map (asked_in Some) taken_lines
