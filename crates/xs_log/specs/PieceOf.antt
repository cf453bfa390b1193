-- A piece of the program as a piece of a content.
use Rattle.xs_replay.specs.Pieces as content
use Rattle.xs_log.specs.declared.piece.Piece.{Piece}
use Rattle.xs_log.specs.declared.piece.Piece.TheVariants.{Key, Entry, Group, Consumer, Row}

abbrev pub piece_of : Piece → content.Piece
piece_of (Key name top added deleted) = content.of_key name top added deleted
piece_of (Entry id fields) = content.of_entry id fields
piece_of (Group name cursor) = content.of_group name cursor
piece_of (Consumer name moment) = content.of_consumer name moment
piece_of (Row id consumer time count) =
    content.of_row id (record { consumer = consumer; time = time; count = count })
