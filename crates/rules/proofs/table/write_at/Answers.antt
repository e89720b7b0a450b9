use Rattle.std.proofs.Common.{get_or, refl}
use Rattle.std.proofs.lemmas.Option.{slice_get-get_or}
use Rattle.rules.proofs.table.write_at.Goals as goal

pub returns : goal.returns
returns g c =
    record {
      before = get_or c.args.records.now c.args.at c.index-records-at.result;
      after = c.write.new.rule;
      there = slice_get-get_or c.args.records.now c.args.at c.index-records-at.result c.requires;
      others = refl;
      wrote = c.write.ensures;
    }
