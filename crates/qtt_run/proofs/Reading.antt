-- What a run finds in the input that may be left.
use Rattle.std.proofs.Common.{◌≡◌, ◌≢◌, ℕ, true, false, List, [], ◌∷◌, ◌++◌, Option, Some, None, Ok, ◌⊎◌, inl, inr, refl, sym, ap, ◌∙◌}
use Rattle.std.proofs.lemmas.List.{append-nil}
use Rattle.std.specs.Str.{is_utf8, chars}
use Rattle.std.specs.Char.{encode_utf8}
use Rattle.qtt_prims.specs.Lines.{line_of, is_too_long, is_line}
use Rattle.qtt_edge.specs.LineCutter.{all_told, Cuts}
use Rattle.qtt_edge.specs.declared.line_cutter.Next.{Next}
use Rattle.qtt_edge.specs.declared.line_cutter.Next.TheVariants as next
use Rattle.qtt_edge.proofs.LineLemmas.{line_of-append, after_line-append}
use Rattle.qtt_run.specs.Lines.{LeftOver, HasInput, Finds}
use Rattle.qtt_run.specs.declared.lines.Lines.{Lines}
use Rattle.qtt_run.specs.declared.lines.Found.{Found}
use Rattle.qtt_run.specs.declared.lines.Found.TheVariants.{Line, End, Bad}

-- an input that was left before, in which this was found
abbrev pub FoundIn : Lines → Option (List ℕ) → List ℕ → Found → Type 0
FoundIn lines content rest found = (input : List ℕ) × LeftOver lines content input × Finds input rest found

not-over : (P : Type 0) (lines : Lines) → lines.at_end ≡ false → lines.at_end ≡ true → P
not-over P lines isnt is = let wrong : ⊥ = cc in absurd wrong

-- before the end is known, some input may be left
pub has-input : (lines : Lines) (content : Option (List ℕ)) → lines.at_end ≡ false → HasInput lines content
has-input lines None before = ([], record { told = tt; over = λ over. not-over _ lines before over })
has-input lines (Some left) before =
    (lines.cutter ++ left, record { told = refl; over = λ over. not-over _ lines before over })

-- behind the end nothing is found
pub end-again : (lines : Lines) (content : Option (List ℕ)) (rest : List ℕ) → lines.at_end ≡ true →
    LeftOver lines content rest →
    FoundIn lines content rest End
end-again lines content rest over left = (rest, left, (left.over over, left.over over))

pub end-found : (old new : Lines) (c d : Option (List ℕ)) (rest : List ℕ) → old.at_end ≡ false → new.at_end ≡ true →
    Cuts (all_told old.cutter c) (all_told new.cutter d) (Ok next.End) → LeftOver new d rest → FoundIn old c rest End
end-found old new None None rest before over cuts left =
    ([], record { told = tt; over = λ e. not-over _ old before e }, (refl, left.over over))
end-found old new (Some held) (Some kept) rest before over cuts left =
    (old.cutter ++ held, record { told = refl; over = λ e. not-over _ old before e }, (cuts.0, left.over over))
end-found old new None (Some kept) rest before over cuts left = absurd cuts
end-found old new (Some held) None rest before over cuts left = absurd cuts

pub end-leaves : (old new : Lines) (c d : Option (List ℕ)) →
    Cuts (all_told old.cutter c) (all_told new.cutter d) (Ok next.End) →
    HasInput new d
end-leaves old new None None cuts = ([], record { told = tt; over = λ _. refl })
end-leaves old new (Some held) (Some kept) cuts = ([], record { told = sym cuts.1; over = λ _. refl })
end-leaves old new None (Some kept) cuts = absurd cuts
end-leaves old new (Some held) None cuts = absurd cuts

-- a line, behind which a byte 10 stood in an input that is not told
not-empty : (xs ys : List ℕ) → (xs ++ 10 ∷ ys) ≢ []
not-empty [] ys = λ e. cc
not-empty (x ∷ xs) ys = λ e. cc

untold-line : (s rest : List ℕ) → is_line s ≡ true → line_of s ≡ s → Finds (s ++ 10 ∷ rest) rest (Line s)
untold-line s rest fits whole =
    let front : line_of (s ++ 10 ∷ rest) ≡ s = line_of-append s (10 ∷ rest) whole ∙ append-nil s in
    (not-empty s rest, ap is_line front ∙ fits, sym front, sym (after_line-append s (10 ∷ rest) whole))

pub line-found : (old new : Lines) (c d : Option (List ℕ)) (s rest : List ℕ) → old.at_end ≡ false →
    is_line s ≡ true → line_of s ≡ s →
    Cuts (all_told old.cutter c) (all_told new.cutter d) (Ok (next.Line s)) → LeftOver new d rest →
    FoundIn old c rest (Line s)
line-found old new None None s rest before fits whole cuts left =
    (s ++ 10 ∷ rest, record { told = tt; over = λ e. not-over _ old before e }, untold-line s rest fits whole)
line-found old new (Some held) (Some kept) s rest before fits whole cuts left = (
  old.cutter ++ held,
  record { told = refl; over = λ e. not-over _ old before e },
  (cuts.0, cuts.1, cuts.2, left.told ∙ cuts.3),
)
line-found old new None (Some kept) s rest before fits whole cuts left = absurd cuts
line-found old new (Some held) None s rest before fits whole cuts left = absurd cuts

long-is-none : (all : List ℕ) → is_too_long (line_of all) ≡ true → (all ≢ []) × (is_line (line_of all) ≡ false)
long-is-none [] long = let wrong : ⊥ = cc in absurd wrong
long-is-none (b ∷ bs) long = (λ e. cc, rw long refl)

not-text-is-none : (all : List ℕ) → is_too_long (line_of all) ≡ false → is_utf8 (line_of all) ≡ false →
    (all ≢ []) × (is_line (line_of all) ≡ false)
unfolding is_utf8 chars encode_utf8
not-text-is-none [] short wrong = let never : ⊥ = cc in absurd never
not-text-is-none (b ∷ bs) short wrong = (λ e. cc, rw (short, wrong) refl)

abbrev untold : List ℕ
untold = 255 ∷ []

untold-none : (untold ≢ []) × (is_line (line_of untold) ≡ false)
unfolding is_utf8 chars encode_utf8
untold-none = (λ e. cc, refl)

long-found : (old new : Lines) (c d : Option (List ℕ)) (rest : List ℕ) → old.at_end ≡ false →
    Cuts (all_told old.cutter c) (all_told new.cutter d) (Ok next.TooLong) → FoundIn old c rest Bad
long-found old new None None rest before cuts =
    (untold, record { told = tt; over = λ e. not-over _ old before e }, untold-none)
long-found old new (Some held) (Some kept) rest before cuts = (
  old.cutter ++ held,
  record { told = refl; over = λ e. not-over _ old before e },
  long-is-none (old.cutter ++ held) cuts.0,
)
long-found old new None (Some kept) rest before cuts = absurd cuts
long-found old new (Some held) None rest before cuts = absurd cuts

not-text-found : (old new : Lines) (c d : Option (List ℕ)) (rest : List ℕ) → old.at_end ≡ false →
    Cuts (all_told old.cutter c) (all_told new.cutter d) (Ok next.NotUtf8) → FoundIn old c rest Bad
not-text-found old new None None rest before cuts =
    (untold, record { told = tt; over = λ e. not-over _ old before e }, untold-none)
not-text-found old new (Some held) (Some kept) rest before cuts = (
  old.cutter ++ held,
  record { told = refl; over = λ e. not-over _ old before e },
  not-text-is-none (old.cutter ++ held) cuts.0 cuts.1,
)
not-text-found old new None (Some kept) rest before cuts = absurd cuts
not-text-found old new (Some held) None rest before cuts = absurd cuts

pub none-found : (old new : Lines) (c d : Option (List ℕ)) (rest : List ℕ) (answer : Next) → old.at_end ≡ false →
    (answer ≡ next.TooLong) ⊎ (answer ≡ next.NotUtf8) →
    Cuts (all_told old.cutter c) (all_told new.cutter d) (Ok answer) →
    FoundIn old c rest Bad
none-found old new c d rest answer before (inl is) cuts = long-found old new c d rest before (rw is at cuts)
none-found old new c d rest answer before (inr is) cuts = not-text-found old new c d rest before (rw is at cuts)
