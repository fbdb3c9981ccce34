-- The answers to the questions that are asked of the sample graph (this project's sample).
use Rattle.std.specs.Prelude.{◌≡◌, ℕ, ◌+◌, Some, List, ◌++◌, codes, decimal, slice_get}
use Rattle.gq_render.specs.Texts.{line}
use Rattle.gq_reply.specs.Replies.{Context, IsTurn}
use Rattle.gq_sample.specs.Questions.{questions}
use Rattle.gq_session.specs.declared.answering.Tone.{Tone}
use Rattle.gq_tokens.specs.declared.params.Param.{Param}

-- the line that stands before the answer to a question
abbrev pub label_text : ℕ → List ℕ
label_text number = line (codes "Q" ++ decimal number)

-- the answer to a question: the line of its number, which counts the questions from 1, and its reply
pub record IsNumbered (c : Context) (params : List Param) (question : List ℕ) (t : Tone) (text : List ℕ) (behind : List Param) : Type 0 where
  pub place : ℕ
  pub at : slice_get questions place ≡ Some question
  pub reply : List ℕ
  pub replies : IsTurn c params question t reply behind
  pub is : text ≡ label_text (place + 1) ++ reply
