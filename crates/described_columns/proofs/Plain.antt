-- The statements of a text without a zero byte have plain names.
use Rattle.sound_text.proofs.Plain.{tokens_plain}
use Rattle.described_columns.specs.Laws.{StatementsArePlain}
use Rattle.described_columns.proofs.Statements.{read_plain}

pub statements_plain : StatementsArePlain
statements_plain text statements h read = read_plain read.tokens statements (tokens_plain text read.tokens h read.cut) read.limited
