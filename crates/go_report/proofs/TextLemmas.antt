-- How the texts of replies, and the text of a session, grow by one reply or by several.
use Rattle.std.proofs.Common.{◌≡◌, ℕ, List, ◌++◌, ap, sym, ◌∙◌, append_assoc}
use Rattle.std.proofs.lemmas.Grind.{flat_map-append}
use Rattle.go_report.specs.declared.reply.Reply.{Reply}
use Rattle.go_report.specs.ReplyText.{text_of, heading_of, texts_of, text_of_session}

-- the texts of replies and then others
pub texts_of-append : (first second : List Reply) → texts_of (first ++ second) ≡ texts_of first ++ texts_of second
texts_of-append first second = flat_map-append text_of first second

-- the text of a session after further replies
pub text_of_session-append : (session : ℕ) (first second : List Reply) →
    text_of_session session (first ++ second) ≡ text_of_session session first ++ texts_of second
text_of_session-append session first second =
    ap (λ (text : List ℕ). heading_of session ++ text) (texts_of-append first second)
    ∙ sym (append_assoc (heading_of session) (texts_of first) (texts_of second))
