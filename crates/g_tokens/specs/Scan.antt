-- Inner: where a text ends, read along the bytes after its quote.
use Rattle.std.specs.Prelude.{◌≡◌, ◌≤◌, ◌<◌, ◌==◌, if◌then◌else◌, Bool, length, drop, ℕ, suc, ◌+◌, List, [], ◌∷◌, ◌++◌, Option, Some, None}
use Rattle.g_tokens.specs.declared.texts.Escape.{Escape}
use Rattle.g_tokens.specs.declared.texts.Escape.TheVariants as escape
use Rattle.g_tokens.specs.declared.texts.Step.{Step}
use Rattle.g_tokens.specs.declared.texts.Step.TheVariants as step
use Rattle.g_tokens.specs.declared.token.Mark.{Mark}
use Rattle.g_tokens.specs.declared.token.Mark.TheVariants as mark
use Rattle.g_tokens.specs.declared.token.Lexeme.{Lexeme}
use Rattle.g_tokens.specs.Tokens.{in_text, lexemes}

abbrev pub End : Type 0
End = Option (List ℕ × ℕ)

-- these bytes before what a text means, and so many bytes before it
abbrev pub put_before : List ℕ → ℕ → End → End
put_before front n None = None
put_before front n (Some x) = Some (front ++ x.0, n + x.1)

abbrev pub further : List ℕ → End → End
further front None = None
further front (Some x) = Some (front ++ x.0, suc x.1)

abbrev pub until : Step → (Escape → End) → End
until step.Close go = Some ([], 1)
until (step.Means b) go = further (b ∷ []) (go escape.Plain)
until (step.Begins e) go = further [] (go e)
until step.Refused go = None

-- what a text means, and how many bytes there are up to its closing quote
unfoldable pub text_end : Escape → List ℕ → End
text_end e [] = None
text_end e (b ∷ w) = until (in_text e b) (λ e. text_end e w)

-- the marks that are one byte and begin no other
abbrev pub mark_alone : ℕ → Option Mark
mark_alone b =
    if b == 124 then Some mark.Bar else (if b == 61 then Some mark.Equals else (if b == 44 then Some mark.Comma
    else (if b == 91 then Some mark.OpenBracket else (if b == 93 then Some mark.CloseBracket else (if b == 123 then Some mark.OpenBrace
    else (if b == 125 then Some mark.CloseBrace else (if b == 40 then Some mark.OpenParen else (if b == 41 then Some mark.CloseParen
    else (if b == 95 then Some mark.Unwired else None)))))))))

-- the next token of a line from a place on, with what comes after it
pub record IsNext (comments : Bool) (from : ℕ) (bytes : List ℕ) (x : Lexeme) : Type 0 where
  pub first : lexemes comments 0 from (drop from bytes) ≡ x ∷ lexemes comments 0 x.end (drop x.end bytes)
  pub after : from ≤ x.begin
  pub some : x.begin < x.end
  pub within : x.end ≤ length bytes

-- the same, or that there is none
abbrev pub Next : Bool → ℕ → List ℕ → Option Lexeme → Type 0
Next comments from bytes None = lexemes comments 0 from (drop from bytes) ≡ []
Next comments from bytes (Some x) = IsNext comments from bytes x
