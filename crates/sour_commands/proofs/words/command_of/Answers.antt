use Rattle.std.proofs.Common.{◌≡◌, ◌↔◌, List, [], ◌∷◌, ℕ, Some, map, sym, ap, ◌∙◌, subst, arith}
use Rattle.std.specs.String.{string_bytes}
use Rattle.sour_commands.specs.declared.command.Command.{Command}
use Rattle.sour_commands.specs.Words.{AskFor}
use Rattle.sour_commands.proofs.CommandLemmas.{list-one, list-three}
use Rattle.sour_commands.proofs.words.command_of.Goals as goal

pub returns-in-len1 : goal.returns-in-len1
returns-in-len1 c =
    let one = list-one c.args.words.now c.word-item.result (omega arith) (omega arith) c.word-item.is in
    let spelled = ap (map string_bytes) one ∙ ap (λ (word : List ℕ). word ∷ []) (sym c.as_str.ensures.value) in
    let P : List (List ℕ) → Type 0 =
    λ words. (asked : Command) → AskFor words asked ↔ (c.command_of_one.result ≡ Some asked) in
    subst P (sym spelled) c.command_of_one.ensures

pub returns-in-len3 : goal.returns-in-len3
returns-in-len3 c =
    let three = list-three c.args.words.now c.command-item.result c.option-item.result c.number-item.result
    (omega arith) (omega arith) c.command-item.is c.option-item.is c.number-item.is in
    let words = c.as_str-in-len3.result.now ∷ c.as_str-in-len3-2.result.now ∷ c.as_str-in-len3-3.result.now ∷ [] in
    let listed = ap (map string_bytes) three in
    let spelled : map string_bytes c.args.words.now ≡ words = cc in
    let P : List (List ℕ) → Type 0 =
    λ words. (asked : Command) → AskFor words asked ↔ (c.command_of_three.result ≡ Some asked) in
    subst P (sym spelled) c.command_of_three.ensures
