use Rattle.aes.proofs.StepLaws.{columns_mixed}
use Rattle.aes.proofs.steps.mix_columns.Goals as goal

pub returns : goal.returns
returns c =
    columns_mixed c.doubled.ensures.stands c.args.q c.one_row_up-next.result c.bitxor-pairs.result c.two_rows_up.result c.bitxor.result c.doubled.result c.bitxor-2.result
    c.one_row_up-next.ensures c.bitxor-pairs.ensures c.two_rows_up.ensures c.bitxor.ensures c.doubled.ensures.value c.bitxor-2.ensures
