-- What is opened to compute the definitions of texts on worked values.
use Rattle.std.specs.Prelude.{⊤}
use Rattle.std.specs.Fmt.{digits}
use Rattle.std.specs.Char.{encode_utf8}
use Rattle.std.specs.Str.{is_utf8, chars}

unfoldable pub texts_on_literals : ⊤
unfolding digits is_utf8 chars encode_utf8
texts_on_literals = tt
