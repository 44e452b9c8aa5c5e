-- The text of an answer (RFC 9112, sections 4, 6.2; RFC 9110, section 15; RFC 6585; RFC 4918).
use Rattle.std.specs.Prelude.{ℕ, ◌==◌, Bool, List, [], ◌++◌, length, codes, if◌then◌else◌}
use Rattle.std.specs.Fmt.{decimal}
use Rattle.http_core.specs.declared.reply.Content.{Content}
use Rattle.http_core.specs.declared.reply.Content.TheVariants.{Own, Shared}

-- an answer: a status, and the bytes of its body
pub record ReplyValue : Type 0 where
  pub status : ℕ
  pub body : List ℕ

-- a status without a body
abbrev pub bare : ℕ → ReplyValue
bare status = record { status = status; body = [] }

-- the bytes, whoever holds them
abbrev pub content_bytes : {A : Type 0} → Content A → List ℕ
content_bytes (Own bytes) = bytes.items
content_bytes (Shared bytes) = bytes.value.items

-- the reason phrase of each status that the server answers; any other has none
unfoldable pub reason : ℕ → List ℕ
reason status =
    if status == 200 then codes "OK"
    else (if status == 400 then codes "Bad Request"
    else (if status == 404 then codes "Not Found"
    else (if status == 405 then codes "Method Not Allowed"
    else (if status == 409 then codes "Conflict"
    else (if status == 411 then codes "Length Required"
    else (if status == 413 then codes "Content Too Large"
    else (if status == 417 then codes "Expectation Failed"
    else (if status == 431 then codes "Request Header Fields Too Large"
    else (if status == 501 then codes "Not Implemented"
    else (if status == 505 then codes "HTTP Version Not Supported"
    else (if status == 507 then codes "Insufficient Storage"
    else [])))))))))))

-- the lines that only some answers have: which methods are allowed, and that the session closes
abbrev pub allow_line : ℕ → List ℕ
allow_line status = if status == 405 then codes "Allow: GET, PUT\r\n" else []

abbrev pub connection_line : Bool → List ℕ
connection_line close = if close then codes "Connection: close\r\n" else []

-- the head of an answer with this many bytes of body
unfoldable pub head_text : ℕ → ℕ → Bool → List ℕ
head_text status size close =
    codes "HTTP/1.1 " ++ decimal status ++ codes " " ++ reason status
    ++ codes "\r\nContent-Length: " ++ decimal size ++ codes "\r\n"
    ++ allow_line status ++ connection_line close ++ codes "\r\n"

-- the text of an answer: its head, and its body
unfoldable pub reply_text : ReplyValue → Bool → List ℕ
reply_text reply close = head_text reply.status (length reply.body) close ++ reply.body
