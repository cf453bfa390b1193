-- What examples compute: the text of replies, and how the bytes of a request are read.
use Rattle.std.specs.Fmt.{digits}
use Rattle.xs_resp.specs.FaultText.{fault_text}
use Rattle.xs_resp.specs.ReplyText.{text}
use Rattle.xs_resp.specs.HeaderPart.{number_in, is_natural}
use Rattle.xs_resp.specs.Header.{header, line_at}
use Rattle.xs_resp.specs.Reading.{bulk_string, words, request}

-- the definitions that examples compute
unfoldable pub example_functions : Type 0
unfolding digits fault_text text line_at number_in is_natural header bulk_string words request
example_functions = Unit {0}
