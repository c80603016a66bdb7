-- Header lines as the parser gives them.
use Rattle.std.specs.Prelude.{List, map}
use Rattle.httparse.specs.Borrowed.{header_parts}
use Rattle.httparse.specs.declared.borrowed.Header.{Header}
use Rattle.satp_http.specs.Lines.{Line}

abbrev pub lines_of : List Header → List Line
lines_of headers = map header_parts headers
