use Rattle.std.proofs.Common.{◌≡◌, [], Ok, subst}
use Rattle.sour_lexer.specs.Placed.{all_placed}
use Rattle.sour_raw.specs.Productions.{whole_at}
use Rattle.sour_reader.specs.Given.{Fails}
use Rattle.sour_reader.proofs.Whole.{is_found}
use Rattle.sour_reader.proofs.FirstFault.{is_first}
use Rattle.sour_reader.proofs.job.read_job.Goals as goal

pub returns-in-Ok-clause-found : goal.returns-in-Ok-clause-found
returns-in-Ok-clause-found c =
    is_found c.args.bytes.now (all_placed c.in_ok-tokens.tokens.tokens.items) c.in_ok-tokens.ensures.tokens
    c.in-Ok.job
    (subst (λ tokens. whole_at (all_placed tokens) ≡ Ok (c.in-Ok.job, [])) c.as_slice.ensures.value c.in-Ok.ensures)

pub returns-clause-fault : goal.returns-clause-fault
returns-clause-fault c =
    is_first c.args.bytes.now (all_placed c.in_ok-tokens.tokens.tokens.items) c.in_ok-tokens.ensures.tokens
    c.in-Err.stop _ _ c.fault_of.result
    c.in_ok-tokens.ensures.end_line c.in_ok-tokens.ensures.end_column
    (subst (λ tokens. Fails c.in-Err.stop (whole_at (all_placed tokens))) c.as_slice.ensures.value c.in-Err.ensures) c.fault_of.ensures
