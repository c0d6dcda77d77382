use Rattle.std.proofs.Common.{List, ℕ, ◌++◌, map, codes, ap, sym, ◌∙◌}
use Rattle.qtt_gen.specs.Generated.{below, import_line, put_line, written}
use Rattle.qtt_gen.proofs.Pieces.{main_lines}
use Rattle.qtt_gen.proofs.texts.main_text.Goals as goal

pub returns : goal.returns
returns c =
    let imports = map (import_line c.args.i) (below 4) in
    let statements = map (put_line c.args.i) (below 4) in
    c.in_ok-put_statements.ensures ∙ ap (λ (v : List ℕ). v ++ written statements)
    (c.in_ok-put-2.ensures ∙ ap (λ (v : List ℕ). v ++ codes "main : IO Unit\nmain = do\n")
    (c.in_ok-put_imports.ensures ∙ ap (λ (v : List ℕ). v ++ written imports)
    (c.in_ok-put.ensures ∙ ap (λ (v : List ℕ). v ++ codes "module Main\n") c.new-text.ensures.items)))
    ∙ sym (main_lines imports statements)
