pub mod PairVectors
pub mod ChangeVectors
pub mod StateVectors
pub mod JournalVectors
pub mod SiteVectors
pub mod CourseVectors
pub mod PointVectors
pub mod RecordVectors
