-- The files of the examples come to what is said of them: by computing.
use Rattle.std.proofs.Common.{refl}
use Rattle.rows.specs.Csv.{read_row, rows}
use Rattle.facts_file.specs.FactExamples.{FilesOfFacts}

pub files_of_facts : FilesOfFacts
unfolding read_row rows
files_of_facts =
    record {
      looped = refl;
      open_ended = refl;
      none = refl;
      blank = refl;
      a_kind = refl;
      a_word = refl;
      three_fields = refl;
      no_number = refl;
      eleven_digits = refl;
      one_too_many = refl;
      seven_before_eleven = refl;
      too_long = refl;
      a_tab = refl;
      a_delete = refl;
      a_byte_order_mark = refl;
      a_lone_lf = refl;
      an_open_quote = refl;
      a_quoted_crlf = refl;
      row_by_row = refl;
    }
