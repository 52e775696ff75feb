-- What a call hands over in plain numbers: notices and firm demands.
use Rattle.std.specs.Prelude.{ℕ, cond, List, map, ℤ, pos, negsuc, Some, None, Option, ◌==◌}
use Rattle.metering.specs.declared.notice.Notice.{Notice}
use Rattle.tally.specs.declared.entry.NoticeEntry.{NoticeEntry}

-- a firm demand; 4,294,967,295 stands for a season that is not elected
abbrev pub elected : ℕ → Option ℕ
elected n = cond (n == 4294967295) None (Some n)

-- the minute of a release; -32,768 stands for none
abbrev pub released : ℤ → Option ℤ
released (pos n) = Some (pos n)
released (negsuc n) = cond (n == 32767) None (Some (negsuc n))

abbrev pub notice_of : NoticeEntry → Notice
notice_of e = record { minute = e.minute; release = released e.release }

-- the notices that a call hands over
abbrev pub notices_of : List NoticeEntry → List Notice
notices_of es = map notice_of es
