-- There is one answer to each question.
use Rattle.go_model.proofs.LawLemmas.{IsLevel-same, AreLevels-same, IsRank-same, IsHop-same, IsLevel-root, Walk-onward}
use Rattle.go_model.proofs.laws.question_laws.Goals as goal

pub returns : goal.returns
returns c = record {
  one_level = IsLevel-same;
  levels = AreLevels-same;
  rank = IsRank-same;
  hop = IsHop-same;
  root = IsLevel-root;
  onward = Walk-onward;
}
