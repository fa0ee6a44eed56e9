-- Without a bundle, exits are written as in the canonical text.
use Rattle.std.proofs.Common.{◌≡◌, ◌++◌, ◌∷◌, ℕ, zero, suc, List, [], map, refl, ap, ◌∙◌}
use Rattle.sour_syntax.specs.declared.exit.Code.{Code}
use Rattle.sour_syntax.specs.declared.exit.Code.TheVariants.{Text, Made}
use Rattle.sour_syntax.specs.declared.exit.Extra.{Extra}
use Rattle.sour_syntax.specs.declared.exit.Exit.{Exit}
use Rattle.sour_syntax.specs.declared.instruction.Instr.{Instr}
use Rattle.sour_syntax.specs.declared.instruction.Instr.TheVariants.{Assume}
use Rattle.sour_syntax.specs.declared.program.Function.{Function}
use Rattle.sour_raw.specs.Lexemes.{comma, dot}
use Rattle.sour_raw.specs.Keys.{keyword}
use Rattle.laws_printing.specs.Pieces.{Piece, Token, Blank, word_then, others_pieces, map_pieces, place_pieces, extra_pieces, exit_pieces, predicates_pieces, instr_pieces}
use Rattle.laws_printing.specs.Named.{variable_name, code_function, code_version, code_variables, raw_expr, raw_target, raw_map, raw_extra, raw_exit, raw_instr}
use Rattle.laws_printing.specs.Bundles.{code_pieces, made_extra_pieces, made_exit_pieces, made_instr_pieces}

module _ (functions : List Function) where
  code-text : (code : Code) (label : List ℕ)
      → code_pieces functions [] code ++ Token dot ∷ word_then label []
      ≡ place_pieces
      (record { function = code_function functions code; version = code_version functions code; label = label })
  code-text (Text f version) label = refl
  code-text (Made zero) label = refl
  code-text (Made (suc number)) label = refl

  module _ (names : List (List ℕ)) where
    extra-text : (extra : Extra)
        → made_extra_pieces functions [] names extra ≡ extra_pieces (raw_extra functions names extra)
    extra-text extra =
        let others : List (List ℕ) = code_variables functions [] extra.target.code in
        ap (λ (pieces : List Piece). pieces ++ Blank
        ∷ word_then (variable_name others extra.result) (Blank ∷ map_pieces (raw_map functions others names extra.map)))
        (code-text extra.target.code extra.target.label)

    extras-text : (extras : List Extra)
        → others_pieces (made_extra_pieces functions [] names) extras
        ≡ others_pieces extra_pieces (map (raw_extra functions names) extras)
    extras-text [] = refl
    extras-text (extra ∷ extras) =
        ap (λ (pieces : List Piece). Token comma ∷ Blank
        ∷ (pieces ++ others_pieces (made_extra_pieces functions [] names) extras))
        (extra-text extra)
        ∙ ap (λ (pieces : List Piece). Token comma ∷ Blank ∷ (extra_pieces (raw_extra functions names extra) ++ pieces))
        (extras-text extras)

    exit-text : (exit : Exit)
        → made_exit_pieces functions [] names exit ≡ exit_pieces (raw_exit functions names exit)
    exit-text exit =
        let binds : List Piece = map_pieces (raw_exit functions names exit).map in
        ap (λ (pieces : List Piece). pieces ++ Blank
        ∷ (binds ++ others_pieces (made_extra_pieces functions [] names) exit.extras))
        (code-text exit.target.code exit.target.label)
        ∙ ap (λ (pieces : List Piece). place_pieces (raw_target functions exit.target) ++ Blank ∷ (binds ++ pieces))
        (extras-text exit.extras)

    -- an instruction of a program is written as in the canonical text
    pub instr_text : (instr : Instr)
        → made_instr_pieces functions [] names instr ≡ instr_pieces (raw_instr functions names instr)
    instr_text (Assume predicates exit) =
        ap (λ (pieces : List Piece). Token (keyword "assume") ∷ Blank
        ∷ predicates_pieces (map (raw_expr functions names) predicates) (Token (keyword "else") ∷ Blank ∷ pieces))
        (exit-text exit)
    instr_text instr = refl
