use Rattle.std.proofs.Common.{◌+◌, refl}
use Rattle.trace_text.proofs.ShortWords.{hexadecimal_word}
use Rattle.trace_text.proofs.words.Words.usual_hex.Goals as goal

pub returns-clause-value : goal.returns-clause-value
returns-clause-value c =
    let s = c.in_ok-spelling.spelling in
    let known = c.in_ok-spelling.ensures in
    (hexadecimal_word c.self.inside.at s.end (s.end + 1) s.value c.self.inside.line.now _ c.self.view_is refl known.0 known.1 known.2 known.3).0

pub returns-clause-past : goal.returns-clause-past
returns-clause-past c =
    let s = c.in_ok-spelling.spelling in
    let known = c.in_ok-spelling.ensures in
    (hexadecimal_word c.self.inside.at s.end (s.end + 1) s.value c.self.inside.line.now _ c.self.view_is refl known.0 known.1 known.2 known.3).1
